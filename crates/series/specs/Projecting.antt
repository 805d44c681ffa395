-- A table's rows seen through a few columns that span the columns of all words: a word is leading exactly where it is fresh in this view. Assumes nothing.
use Rattle.std.specs.Prelude.{◌≡◌, ℕ, ◌<◌}
use Rattle.field.specs.FiniteField.{FiniteField}
use Rattle.series.specs.Words.{Word, Over}
use Rattle.series.specs.Spans.{Span}
use Rattle.series.specs.Families.{Of}
use Rattle.series.specs.Fresh.{Fresh}
use Rattle.series.specs.Tables.{Table, against, row, column}

module _ {V : Type 0} (K : FiniteField V) (T : Table V) (k : ℕ) where
  -- the columns of the words over 1 to k
  abbrev pub Columns : (ℕ → V) → Type 0
  Columns c = (u : Word) × Over k u × (c ≡ column K T u)

  module _ (d : ℕ) (cs : ℕ → ℕ → V) where
    -- the d columns cs and the columns of all words are combinations of each other
    pub record Spanning : Type 0 where
      pub covers : (u : Word) → Over k u → Span K (λ i. i < T.states) (Of d cs) (column K T u)
      pub covered : (i : ℕ) → i < d → Span K (λ i. i < T.states) Columns (cs i)

    -- the products of a word's row with the columns
    abbrev pub seen : Word → ℕ → V
    seen w = against K T.states cs (row K T w)

    -- a word whose products are no combination of those of smaller words
    abbrev pub FreshSeen : Word → Type 0
    FreshSeen = Fresh K (λ i. i < d) k seen
