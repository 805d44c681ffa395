-- Vectors by number, and their combinations by coefficients. Assumes nothing.
use Rattle.std.specs.Prelude.{◌≡◌, ℕ, ◌<◌}
use Rattle.field.specs.FiniteField.{FiniteField}
use Rattle.field.specs.Sums.{sum_below}
use Rattle.series.specs.Spans.{Span}

module _ {V : Type 0} {X : Type 0} where
  -- x is one of the first n
  abbrev pub Of : ℕ → (ℕ → X → V) → (X → V) → Type 0
  Of n xs x = (j : ℕ) × (j < n) × (x ≡ xs j)

  -- c 0 times the vector 0, .. and c (n - 1) times the vector n - 1
  abbrev pub mix : FiniteField V → ℕ → (ℕ → V) → (ℕ → X → V) → X → V
  mix K n c xs i = sum_below K n (λ j. K.times (c j) (xs j i))

  -- one of the first n is a combination of those before it
  abbrev pub Dependent : FiniteField V → (X → Type 0) → ℕ → (ℕ → X → V) → Type 0
  Dependent K P n xs = (j : ℕ) × (j < n) × Span K P (Of j xs) (xs j)

  -- none of the first n is a combination of those before it
  abbrev pub Independent : FiniteField V → (X → Type 0) → ℕ → (ℕ → X → V) → Type 0
  Independent K P n xs = (j : ℕ) → j < n → ¬ (Span K P (Of j xs) (xs j))
