-- Unit rows. Assumes nothing.
use Rattle.std.proofs.Common.{◌≡◌, ℕ, zero, suc, ◌≢◌, refl, arith}
use Rattle.field.specs.FiniteField.{FiniteField}
use Rattle.leading.specs.Units.{unit}

module _ {V : Type 0} (K : FiniteField V) where
  pub unit_here : (i : ℕ) → unit K i i ≡ K.one
  unit_here zero = refl
  unit_here (suc i) = unit_here i

  pub unit_other : (i j : ℕ) → j ≢ i → unit K i j ≡ K.zero
  unit_other zero zero u = absurd (u refl)
  unit_other zero (suc j) u = refl
  unit_other (suc i) zero u = refl
  unit_other (suc i) (suc j) u = unit_other i j (omega arith)
