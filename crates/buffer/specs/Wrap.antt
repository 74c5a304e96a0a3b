-- Key wrap, RFC 3394, over the codebook of a block: A is the first eight bytes of a buffer, and R[1] to R[n] are those behind it. Its
-- numbers are those of the RFC.
-- Assumes nothing.
use Rattle.std.specs.Prelude.{List, ◌++◌, ℕ, zero, suc, ◌+◌, ◌-◌, ◌*◌, ◌/◌, ◌%◌, ◌^◌, length, take, drop}
use Rattle.aes.specs.Byte.{◌⊕◌, listed}
use Rattle.aes.specs.State.{at}

-- the initial value (2.2.3.1): a6 eight times
abbrev pub initial : List ℕ
initial = listed (λ i. 0xa6) 0 8

-- t in 64 bits, the highest byte first; and MSB(64, B) xor t
abbrev pub counter : ℕ → ℕ → ℕ
counter t i = t / 256 ^ (7 - i) % 256

unfoldable pub counted : ℕ → List ℕ → List ℕ
counted t a = listed (λ i. at a i ⊕ counter t i) 0 8

-- R[i], and the buffer with other A and R[i]
unfoldable pub value : ℕ → List ℕ → List ℕ
value i s = take 8 (drop (8 * i) s)

unfoldable pub with_values : ℕ → List ℕ → List ℕ → List ℕ → List ℕ
with_values i a r s = a ++ take (8 * i - 8) (drop 8 s) ++ r ++ drop (8 * i + 8) s

-- step t of wrapping (2.2.1): B = E(A | R[i]), A = MSB(64, B) xor t, R[i] = LSB(64, B)
unfoldable pub wrap_step : (List ℕ → List ℕ) → ℕ → ℕ → List ℕ → List ℕ
wrap_step E i t s =
    let b = E (take 8 s ++ value i s) in
    with_values i (counted t (take 8 b)) (drop 8 b) s

-- and of unwrapping (2.2.2): B = D((A xor t) | R[i]), A = MSB(64, B), R[i] = LSB(64, B)
unfoldable pub unwrap_step : (List ℕ → List ℕ) → ℕ → ℕ → List ℕ → List ℕ
unwrap_step D i t s =
    let b = D (counted t (take 8 s) ++ value i s) in
    with_values i (take 8 b) (drop 8 b) s

-- step k of all, from 0 on, has j = k / n and i = k % n + 1, and t = n j + i
abbrev pub place : ℕ → ℕ → ℕ
place n k = k % n + 1

abbrev pub number : ℕ → ℕ → ℕ
number n k = n * (k / n) + place n k

-- the first k steps of wrapping
unfoldable pub wrap_steps : (List ℕ → List ℕ) → ℕ → ℕ → List ℕ → List ℕ
wrap_steps E n zero s = s
wrap_steps E n (suc k) s = wrap_step E (place n k) (number n k) (wrap_steps E n k s)

-- the last k of unwrapping, which go back
unfoldable pub unwrap_steps : (List ℕ → List ℕ) → ℕ → ℕ → List ℕ → List ℕ
unwrap_steps D n zero s = s
unwrap_steps D n (suc k) s = unwrap_steps D n k (unwrap_step D (place n k) (number n k) s)

-- n values wrapped, and a buffer of n + 1 unwrapped
unfoldable pub wrapped : (List ℕ → List ℕ) → List ℕ → List ℕ
wrapped E values = let n = length values / 8 in wrap_steps E n (6 * n) (initial ++ values)

unfoldable pub unwrapped : (List ℕ → List ℕ) → List ℕ → List ℕ
unwrapped D s = let n = length s / 8 - 1 in unwrap_steps D n (6 * n) s
