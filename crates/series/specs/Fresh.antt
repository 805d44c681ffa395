-- Words whose vectors are no combination of the vectors of smaller words: kept words and leading words are cases of it. Assumes nothing.
use Rattle.std.specs.Prelude.{◌≡◌, ℕ}
use Rattle.field.specs.FiniteField.{FiniteField}
use Rattle.series.specs.Spans.{Span}
use Rattle.series.specs.Words.{Word, Over, ◌≺◌}

module _ {V : Type 0} {X : Type 0} where
  -- the vectors of the words over 1 to k that are smaller than w
  abbrev pub Earlier : ℕ → (Word → X → V) → Word → (X → V) → Type 0
  Earlier k vector w x = (u : Word) × (u ≺ w) × Over k u × (x ≡ vector u)

  module _ (K : FiniteField V) (P : X → Type 0) (k : ℕ) (vector : Word → X → V) where
    -- a word over 1 to k whose vector is no combination of theirs
    abbrev pub Fresh : Word → Type 0
    Fresh w = Over k w × (¬ (Span K P (Earlier k vector w) (vector w)))
