-- The columns through which a reduction looks at a table's rows. Assumes nothing.
use Rattle.std.specs.Prelude.{ℕ, List}
use Rattle.field.specs.FiniteField.{FiniteField}
use Rattle.series.specs.Tables.{Table}
use Rattle.series.specs.Projecting.{Spanning}
use Rattle.field.specs.Rows.{row_at}
use Rattle.spanning.specs.Places.{vector_at}

module _ {F V : Type 0} (K : FiniteField V) (value : F → V) where
  -- the columns that a slice holds
  abbrev pub columns_of : List F → ℕ → ℕ → V
  columns_of cs j = row_at K value cs (vector_at j)

  -- the first d columns that cs holds span the columns of all words of T
  abbrev pub Spanned : Table V → ℕ → List F → Type 0
  Spanned T d cs = Spanning K T T.letters d (columns_of cs)
