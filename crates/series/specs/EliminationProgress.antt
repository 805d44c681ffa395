-- How far an elimination has come: vectors in echelon form. Assumes nothing.
use Rattle.std.specs.Prelude.{◌≡◌, ℕ, ◌<◌, ◌≢◌}
use Rattle.field.specs.FiniteField.{FiniteField}
use Rattle.series.specs.Spans.{Span}
use Rattle.series.specs.Families.{Of}
use Rattle.series.specs.Words.{Word}

-- each of the first n vectors has a pivot, a place at which it is not zero and those behind it are
pub record Echelon {V : Type 0} (K : FiniteField V) {X : Type 0} (P : X → Type 0) (n : ℕ) (xs : ℕ → X → V) (pivot : ℕ → X) : Type 0 where
  pub within : (i : ℕ) → i < n → P (pivot i)
  pub apart : (i : ℕ) → i < n → xs i (pivot i) ≢ K.zero
  pub clear : (i j : ℕ) → i < j → j < n → xs j (pivot i) ≡ K.zero

-- vectors in echelon form that span what the vectors of the first n words do
pub record Basis {V : Type 0} (K : FiniteField V) {X : Type 0} (P : X → Type 0) (vector : Word → X → V) (n : ℕ) (words : ℕ → Word) (xs : ℕ → X → V) (pivot : ℕ → X) : Type 0 where
  pub stairs : Echelon K P n xs pivot
  pub from : (j : ℕ) → j < n → Span K P (Of n (λ i. vector (words i))) (xs j)
  pub to : (j : ℕ) → j < n → Span K P (Of n xs) (vector (words j))
