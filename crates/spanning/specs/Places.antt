-- Where vectors and coefficients lie in the slices that a reduction is lent for them. Assumes nothing.
use Rattle.std.specs.Prelude.{ℕ, ◌+◌, ◌*◌}

-- column or row j, which takes 16 elements
abbrev pub vector_at : ℕ → ℕ
vector_at j = j * 16

-- the coefficients of the leading word i followed by the letter a, from 1 to 6: 16 elements
abbrev pub coefficients_at : ℕ → ℕ → ℕ
coefficients_at i a = i * 128 + a * 16
