-- The memory that a report brings. Assumes nothing.
use Rattle.std.specs.Prelude.{◌≡◌, List, All}
use Rattle.field.specs.FiniteField.{FiniteField}

-- every place holds zero
abbrev pub AllZero : {F V : Type 0} → FiniteField V → (F → V) → List F → Type 0
AllZero K value xs = All (λ x. value x ≡ K.zero) xs
