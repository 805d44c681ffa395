-- What the arithmetic on rows gives. Assumes nothing.
use Rattle.std.specs.Prelude.{◌≡◌, ℕ, ◌<◌, ◌≢◌}
use Rattle.field.specs.FiniteField.{FiniteField}

module _ {V : Type 0} (K : FiniteField V) where
  -- c times the row x
  abbrev pub multiple : V → (ℕ → V) → ℕ → V
  multiple c x j = K.times c (x j)

  -- p is the first of the columns below n at which the row x is not zero
  pub record FirstNonzero (n : ℕ) (x : ℕ → V) (p : ℕ) : Type 0 where
    pub within : p < n
    pub before : (j : ℕ) → j < p → x j ≡ K.zero
    pub apart : x p ≢ K.zero
