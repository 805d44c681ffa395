-- Rows in echelon form, and what they leave of a row. Assumes nothing.
use Rattle.std.specs.Prelude.{◌≡◌, ℕ, ◌<◌, ◌≢◌, List, length, slice_index}
use Rattle.field.specs.FiniteField.{FiniteField}
use Rattle.series.specs.EliminationProgress.{Echelon}
use Rattle.series.specs.Families.{Of}
use Rattle.series.specs.Spans.{Span}
use Rattle.field.specs.Rows.{Agree, square_at}
use Rattle.rows.specs.Arithmetic.{multiple}

-- rows of w entries, one behind the other in xs, as many as there are pivots
module _ {F V : Type 0} (K : FiniteField V) (value : F → V) (w : ℕ) (pivots : List ℕ) (xs : List F) where
  -- each has its pivot among its first d entries, where it is not zero and those behind it are
  abbrev pub RowsInEchelon : ℕ → Type 0
  RowsInEchelon d = Echelon K (λ i. i < d) (length pivots) (square_at K value xs 0 w) (λ b. slice_index pivots b)

  -- each is one at its pivot
  abbrev pub OnesAtPivots : Type 0
  OnesAtPivots = (b : ℕ) → b < length pivots → square_at K value xs 0 w b (slice_index pivots b) ≡ K.one

module _ {V : Type 0} (K : FiniteField V) where
  -- y is the row x of d entries less a combination of the first n rows of q, and is zero at their pivots p
  pub record Remainder (d n : ℕ) (q : ℕ → ℕ → V) (p : ℕ → ℕ) (x y : ℕ → V) : Type 0 where
    pub taken : Span K (λ i. i < d) (Of n q) (λ i. K.plus (x i) (K.opposite (y i)))
    pub cleared : (i : ℕ) → i < n → y (p i) ≡ K.zero

  -- the rows leave nothing of x: it is a combination of them
  abbrev pub NothingLeft : ℕ → ℕ → (ℕ → ℕ → V) → (ℕ → ℕ) → (ℕ → V) → Type 0
  NothingLeft d n q p x = Remainder d n q p x (λ _. K.zero)

  -- the rows leave of x a row that is not zero at `pivot`, and z is its multiple that is one there; there was room for z beside them
  pub record NewRow (d n : ℕ) (q : ℕ → ℕ → V) (p : ℕ → ℕ) (x : ℕ → V) (pivot : ℕ) (z : ℕ → V) : Type 0 where
    pub rest : ℕ → V
    pub remainder : Remainder d n q p x rest
    pub within : pivot < d
    pub apart : rest pivot ≢ K.zero
    pub scaled : Agree d z (multiple K (K.inverse (rest pivot)) rest)
    pub room : n < d
