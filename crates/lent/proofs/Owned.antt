-- What is known of an array that a struct taken by value holds: how many bytes it has, and that they are bytes.
-- Assumes nothing.
use mathlib.Core.List.{List}
use Prim.Native.Nat.{ℕ}
use mir.Syntax.{w8}
use mir.Val.{Val}
use denote.Shadow.{shadow}
use denote.Array.{Array}
use denote.Plain.{UInt}
use borrow.Author.Rules.{elem_Fits}
use Rattle.aes.specs.State.{Bytes}

-- what `.good` of a parameter has under the struct's one field
pub field_bytes : {n : ℕ} {xs : List ℕ} {vs : List Val} → shadow ((Array (UInt w8) n).own_val xs vs) → Bytes n xs
field_bytes {n} {xs} g = record { size = g.1.0.1; byte = λ i. (elem_Fits w8 w8 xs g.0 i g.1.1 tt).fits }
