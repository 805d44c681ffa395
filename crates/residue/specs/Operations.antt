-- The residues modulo a prime, and their operations. Assumes nothing.
use Rattle.std.specs.Prelude.{ℕ, zero, suc, ◌+◌, ◌-◌, ◌*◌, ◌%◌, ◌<◌, Bool, if◌then◌else◌, ◌==◌}
use Rattle.std.proofs.Common.{mod-lt, arith}
use Rattle.field.specs.Below.{Below}
use Rattle.residue.specs.Prime.{Prime}

-- the largest number below n that passes the test, or 0 where none does
abbrev pub last_below : ℕ → (ℕ → Bool) → ℕ
last_below zero test = 0
last_below (suc n) test = if test n then n else last_below n test

module _ (p : ℕ) (pr : Prime p) where
  pub positive : 0 < p
  positive = omega (arith, pr.low)

  -- the residue of a number
  abbrev pub residue_of : ℕ → Below p
  residue_of n = record { n = n % p; below = mod-lt n positive }

  -- zero and one
  abbrev pub residue_zero : Below p
  residue_zero = record { n = 0; below = positive }

  abbrev pub residue_one : Below p
  residue_one = record { n = 1; below = pr.low }

  -- the sum
  abbrev pub sum_of : Below p → Below p → Below p
  sum_of x y = residue_of (x.n + y.n)

  -- the residue whose sum with x is zero
  abbrev pub opposite_of : Below p → Below p
  opposite_of x = residue_of (p - x.n)

  -- the product
  abbrev pub product_of : Below p → Below p → Below p
  product_of x y = residue_of (x.n * y.n)

  -- the residue whose product with x is one; of zero, zero
  unfoldable pub inverse_of : Below p → Below p
  inverse_of x = residue_of (last_below p (λ y. y * x.n % p == 1))
