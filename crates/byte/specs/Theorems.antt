-- What the product of bytes is, as FIPS 197 defines it. Assumes nothing.
use Rattle.std.specs.Prelude.{◌≡◌, ℕ}
use Rattle.field.specs.Below.{Below}
use Rattle.byte.specs.Bytes.{bytes}
use Rattle.byte.specs.Polynomials.{carry_less, IsRemainder}

-- the product of two bytes is a remainder of their carry-less product by t^8 + t^4 + t^3 + t + 1
abbrev pub ProductIsRemainder : Type 0
ProductIsRemainder = (x y : Below 256) → IsRemainder (carry_less x.n y.n) (bytes.times x y).n

-- a polynomial has one remainder
abbrev pub RemainderIsUnique : Type 0
RemainderIsUnique = (c r s : ℕ) → IsRemainder c r → IsRemainder c s → r ≡ s
