-- What inner contracts say of a run's states: the steps over what a run is lent, and the label that a state has in its round.
-- Assumes nothing.
use Rattle.std.specs.Prelude.{◌≡◌, List, ℕ, ◌+◌, ◌-◌, ◌*◌, ◌%◌}
use Rattle.aes.specs.Record.{Point}
use Rattle.lent.specs.declared.tables.Schedule.{Schedule}
use Rattle.lent.specs.declared.tables.Encryption.{Encryption}
use Rattle.lent.specs.declared.tables.Decryption.{Decryption}
use Rattle.lent.specs.Started.{offsets_of}
use Rattle.runs.specs.declared.steps.Covered.{Covered}
use Rattle.runs.specs.Back.{Back}
use Rattle.runs.specs.Lent.{steps, back_steps}

-- the steps from label o on, with the last constant
abbrev pub forth : Schedule → Encryption → ℕ → List ℕ → Point → List ℕ → List ℕ
forth w t o end = steps w.bytes.now t.boxes.now t.compensations.now (offsets_of t.laid.masks) o t.laid.masks.step end

abbrev pub back : Schedule → Decryption → ℕ → List ℕ → Back → List ℕ → List ℕ
back w t o end = back_steps w.rounds w.bytes.now t.boxes.now t.rows.now t.columns.now (offsets_of t.laid.masks) o t.laid.masks.step end

-- the label of a state is o and a step for each of its rounds, which a decryption counts back
abbrev pub Forth : ℕ → Encryption → Covered → Type 0
Forth o t s = s.label.0 % 16 ≡ (o + t.laid.masks.step * s.round.0) % 16

abbrev pub Behind : ℕ → Schedule → Decryption → Covered → Type 0
Behind o w t s = s.label.0 % 16 ≡ (o + t.laid.masks.step * (w.rounds - s.round.0)) % 16
