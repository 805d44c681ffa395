-- Unit rows. Assumes nothing.
use Rattle.std.specs.Prelude.{ℕ, zero, suc}
use Rattle.field.specs.FiniteField.{FiniteField}

-- the row that is one at i and zero elsewhere
abbrev pub unit : {V : Type 0} → FiniteField V → ℕ → ℕ → V
unit K zero zero = K.one
unit K zero (suc j) = K.zero
unit K (suc i) zero = K.zero
unit K (suc i) (suc j) = unit K i j
