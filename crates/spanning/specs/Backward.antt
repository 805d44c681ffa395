-- How far the search for spanning columns has come. Assumes nothing.
use Rattle.std.specs.Prelude.{◌≡◌, ℕ, ◌<◌, ◌≤◌, List, [], ◌∷◌, length, slice_index}
use Rattle.field.specs.FiniteField.{FiniteField}
use Rattle.series.specs.Words.{Word, Over}
use Rattle.series.specs.Spans.{Span}
use Rattle.series.specs.Families.{Of}
use Rattle.series.specs.EliminationProgress.{Basis}
use Rattle.field.specs.Rows.{Agree, row_at, square_at}
use Rattle.series.specs.Tables.{Table, column}
use Rattle.spanning.specs.Places.{vector_at}

module _ {F V : Type 0} (K : FiniteField V) (value : F → V) (T : Table V) where
  -- the column of the word u is a combination of those of the first n words
  abbrev pub Covered : ℕ → (ℕ → Word) → Word → Type 0
  Covered n words u = Span K (λ i. i < T.states) (Of n (λ j. column K T (words j))) (column K T u)

  -- cs holds the columns of the first n words, es holds them in echelon form, and they cover the end column; both have room for 17
  pub record ColumnsHeld (n : ℕ) (words : ℕ → Word) (pivots : List ℕ) (cs es : List F) : Type 0 where
    pub room : (272 ≤ length cs) × (272 ≤ length es)
    pub overs : (j : ℕ) → j < n → Over T.letters (words j)
    pub columns : (j : ℕ) → j < n → Agree T.states (row_at K value cs (vector_at j)) (column K T (words j))
    pub basis : Basis K (λ i. i < T.states) (column K T) n words (square_at K value es 0 T.states) (λ b. slice_index pivots b)
    pub ones : (b : ℕ) → b < n → square_at K value es 0 T.states b (slice_index pivots b) ≡ K.one
    pub end_covered : Covered n words []

  -- the word i with the letter a before it is to be tried next; the first n words are found
  pub record ColumnDueBy (i a n : ℕ) (pivots : List ℕ) (cs es : List F) : Type 0 where
    pub words : ℕ → Word
    pub held : ColumnsHeld n words pivots cs es
    pub few : n ≤ T.states
    pub upto : i ≤ n
    pub past : (m b : ℕ) → m < i → 1 ≤ b → b ≤ T.letters → Covered n words (b ∷ words m)
    pub here : (b : ℕ) → 1 ≤ b → b < a → Covered n words (b ∷ words i)

  -- the same, by the pivots of what was found
  abbrev pub ColumnDue : ℕ → ℕ → List ℕ → List F → List F → Type 0
  ColumnDue i a pivots cs es = ColumnDueBy i a (length pivots) pivots cs es
