-- The S-box and its inverse undo each other, and so do SUBBYTES and INVSUBBYTES.
-- Assumes nothing.
use mathlib.Core.Path.{◌≡◌}
use mathlib.Core.List.{List}
use Prim.Native.Nat.{ℕ, ◌<◌}
use Rattle.aes.specs.Box.{s_box, inv_s_box}
use Rattle.aes.specs.State.{at, sub_bytes, inv_sub_bytes, Bytes}
use Rattle.aes.proofs.Listed.{place_right, place_only}
use Rattle.aes.proofs.Boxes.{inverted, inv_s_box_byte}
use Rattle.aes.proofs.Undo.{state-at, state-bytes}

pub s_box-inv_s_box : (b : ℕ) → b < 256 → s_box (inv_s_box b) ≡ b
unfolding inv_s_box
s_box-inv_s_box = place_right s_box (λ b. b) 256 inverted

pub inv_s_box-s_box : (b : ℕ) → b < 256 → inv_s_box (s_box b) ≡ b
unfolding inv_s_box
inv_s_box-s_box = place_only s_box (λ b. b) 256 inverted

pub inv_sub_bytes_lem : {s : List ℕ} → Bytes 16 s → Bytes 16 (inv_sub_bytes s)
unfolding inv_sub_bytes
inv_sub_bytes_lem {s} p = state-bytes (λ i. inv_s_box (at s i)) (λ i. inv_s_box_byte (at s i) (p.byte i))

pub inv_sub_sub : {s : List ℕ} → Bytes 16 s → inv_sub_bytes (sub_bytes s) ≡ s
unfolding sub_bytes inv_sub_bytes
inv_sub_sub {s} h = simp (inv_s_box-s_box, h.byte) (state-at s h.size)

pub sub_inv_sub : {s : List ℕ} → Bytes 16 s → sub_bytes (inv_sub_bytes s) ≡ s
unfolding sub_bytes inv_sub_bytes
sub_inv_sub {s} h = simp (s_box-inv_s_box, h.byte) (state-at s h.size)
