-- The reply number of each outcome.
-- Assumes nothing.
use Rattle.std.specs.Prelude.{ℕ, Result, Ok, Err}
use Rattle.aes.specs.declared.reply.Refusal.{Refusal}
use Rattle.aes.specs.declared.reply.Refusal.TheVariants.{KeyLength, ScheduleLength, InputLength, OutputLength, MasksLength, OffsetRange, FormUnknown, RecordLength, NoLogarithm, PowerRange, SheetLength, MarkWrong, VersionUnknown, OffsetsLength, StepWrong, KeyDataLength, WrappedLength, Integrity, PacketLength, SyncLost, FieldWrong, PipesWrong, BitsWrong, OffsetPerByte, PartyFull, BankFull, NotLoaded, PartyUnknown}

abbrev pub number : Refusal → ℕ
number KeyLength = 1
number ScheduleLength = 2
number InputLength = 3
number OutputLength = 4
number MasksLength = 5
number OffsetRange = 6
number FormUnknown = 7
number RecordLength = 8
number NoLogarithm = 9
number PowerRange = 10
number SheetLength = 11
number MarkWrong = 12
number VersionUnknown = 13
number OffsetsLength = 14
number StepWrong = 15
number KeyDataLength = 16
number WrappedLength = 17
number Integrity = 18
number PacketLength = 19
number SyncLost = 20
number FieldWrong = 21
number PipesWrong = 22
number BitsWrong = 23
number OffsetPerByte = 24
number PartyFull = 25
number BankFull = 26
number NotLoaded = 27
number PartyUnknown = 28

-- 0 for a call that is done
abbrev pub reply : {A : Type 0} → Result A Refusal → ℕ
reply (Ok a) = 0
reply (Err refusal) = number refusal

-- the value beside the reply, which a refusal has not
abbrev pub value : Result ℕ Refusal → ℕ
value (Ok n) = n
value (Err refusal) = 0
