-- The transformations over lent tables are those of FIPS 197, where the tables are.
-- Assumes nothing.
use mathlib.Core.Path.{◌≡◌}
use mathlib.Core.List.{List}
use Prim.Native.Nat.{ℕ, ◌<◌}
use mir.Syntax.{w8}
use mir.Val.{Fits}
use Rattle.aes.specs.Byte.{table}
use Rattle.aes.specs.Box.{s_box, inv_s_box}
use Rattle.aes.specs.State.{sub_bytes, inv_sub_bytes, Bytes}
use Rattle.aes.specs.Lent.{substituted}
use Rattle.aes.proofs.Listed.{table_at}

-- SUBBYTES and its inverse by their tables
pub sub_lent : (s : List ℕ) → Bytes 16 s → substituted (table s_box 256) s ≡ sub_bytes s
unfolding substituted sub_bytes
sub_lent s h = simp (table_at s_box 256, h.byte)

pub inv_sub_lent : (s : List ℕ) → Bytes 16 s → substituted (table inv_s_box 256) s ≡ inv_sub_bytes s
unfolding substituted inv_sub_bytes
inv_sub_lent s h = simp (table_at inv_s_box 256, h.byte)

-- a number that fits a byte, as what is known of an array's elements has it
pub byte : (x : ℕ) → Fits w8 x → x < 256
byte x f = f.fits
