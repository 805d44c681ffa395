-- Polynomials over GF(2) as numbers: bit i is the coefficient of t^i. Assumes nothing.
use Rattle.std.specs.Prelude.{◌≡◌, ℕ, zero, suc, ◌+◌, ◌*◌, ◌/◌, ◌%◌, ◌^◌, ◌<◌, bit_xor}

-- f 0 + .. + f (n - 1): the sum of two polynomials is their exclusive or
abbrev pub sum_below : ℕ → (ℕ → ℕ) → ℕ
sum_below zero f = 0
sum_below (suc n) f = bit_xor (sum_below n f) (f n)

-- the coefficient of t^i in b
abbrev pub coefficient : ℕ → ℕ → ℕ
coefficient b i = b / 2 ^ i % 2

-- the carry-less product of a and a byte b: the sum of t^i times a over the coefficients of b
unfoldable pub carry_less : ℕ → ℕ → ℕ
carry_less a b = sum_below 8 (λ i. coefficient b i * (a * 2 ^ i))

-- t^8 + t^4 + t^3 + t + 1
abbrev pub modulus : ℕ
modulus = 2 ^ 8 + 2 ^ 4 + 2 ^ 3 + 2 ^ 1 + 2 ^ 0

-- r has degree below 8, and c is a multiple of the modulus plus r
pub record IsRemainder (c r : ℕ) : Type 0 where
  pub low : r < 2 ^ 8
  pub quotient : ℕ
  pub quotient_low : quotient < 2 ^ 8
  pub whole : c ≡ bit_xor (carry_less modulus quotient) r
