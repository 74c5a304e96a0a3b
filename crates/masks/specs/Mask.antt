-- The masks of document 002, and what is made of sixteen of them. A label is counted modulo 16.
-- Assumes nothing.
use Rattle.std.specs.Prelude.{List, [], ◌∷◌, ◌++◌, ℕ, zero, suc, ◌+◌, ◌%◌}
use Rattle.aes.specs.Byte.{◌⊕◌, table}
use Rattle.aes.specs.Key.{round_key}
use Rattle.aes.specs.State.{at, state, shift_rows, mix_columns, inv_shift_rows, inv_mix_columns, add_round_key}

-- the published masks M0 to M15
unfoldable pub published : List ℕ
published =
    0x00 ∷ 0x0f ∷ 0x36 ∷ 0x39 ∷ 0x53 ∷ 0x5c ∷ 0x65 ∷ 0x6a ∷ 0x95 ∷ 0x9a ∷ 0xa3 ∷ 0xac ∷ 0xc6 ∷ 0xc9 ∷ 0xf0 ∷ 0xff ∷ []

-- the sum of two states, byte by byte
infixl 68 ◌⊞◌
abbrev pub ◌⊞◌ : List ℕ → List ℕ → List ℕ
a ⊞ b = add_round_key a b

-- a record has an offset for each byte; the record of one offset o is o, o+1 .. o+15
abbrev pub one : ℕ → List ℕ
one o = state (λ i. (o + i) % 16)

-- the label of byte i at the offsets v, k labels on, and the record of all these labels
abbrev pub label : List ℕ → ℕ → ℕ → ℕ
label v k i = (at v i + k) % 16

abbrev pub advanced : List ℕ → ℕ → List ℕ
advanced v k = state (label v k)

-- the masks over the sixteen bytes at the offsets v, k labels on, of the masks M: where v is the record of o, Mask(o+k)
unfoldable pub mask : List ℕ → List ℕ → ℕ → List ℕ
mask M v k = state (λ i. at M (label v k i))

-- the masks twice over, so that sixteen of them lie in a row from any label on
abbrev pub twice : List ℕ → List ℕ
twice M = table (λ i. at M (i % 16)) 32

-- masked box j over S, or over its inverse, with step d: S(x xor M(j)) xor M(j+d)
unfoldable pub masked_box : (ℕ → ℕ) → List ℕ → ℕ → ℕ → ℕ → ℕ
masked_box S M d j x = S (x ⊕ at M (j % 16)) ⊕ at M ((j + d) % 16)

-- Compensation, and the corrections of a decryption after INVSHIFTROWS and INVMIXCOLUMNS, by the mask that is to lie there
unfoldable pub compensation : List ℕ → List ℕ
compensation m = m ⊞ mix_columns (shift_rows m)

unfoldable pub after_rows : List ℕ → List ℕ
after_rows m = m ⊞ inv_shift_rows m

unfoldable pub after_columns : List ℕ → List ℕ
after_columns m = m ⊞ inv_mix_columns m

-- f 0, f 1, .. f (n - 1), one after the other
unfoldable pub in_row : (ℕ → List ℕ) → ℕ → List ℕ
in_row f zero = []
in_row f (suc n) = in_row f n ++ f n

-- the masks over the sixteen bytes at the offsets v for each of sixteen labels on, in a row
unfoldable pub covers_of : List ℕ → List ℕ → List ℕ
covers_of M v = in_row (mask M v) 16

-- the sixteen masked boxes with step d, and the sixteen constants of one kind at the offsets v, which depend on no step, in a row
unfoldable pub masked_boxes : (ℕ → ℕ) → List ℕ → ℕ → List ℕ
masked_boxes S M d = in_row (λ j. table (masked_box S M d j) 256) 16

unfoldable pub constants : (List ℕ → List ℕ) → List ℕ → List ℕ → List ℕ
constants f M v = in_row (λ k. f (mask M v k)) 16

-- these of masks that lie there in a row, whatever their offsets are
unfoldable pub constants_of : (List ℕ → List ℕ) → List ℕ → List ℕ
constants_of f c = in_row (λ k. f (round_key c k)) 16
