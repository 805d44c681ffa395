-- Tables seen in memory, and the rows and matrices that whole slices hold. Assumes nothing.
use Rattle.std.specs.Prelude.{◌≡◌, ℕ, ◌+◌, ◌*◌, ◌<◌, List, length, slice_range}
use Rattle.field.specs.FiniteField.{FiniteField}
use Rattle.field.specs.Rows.{Agree, square_at}
use Rattle.series.specs.Tables.{Table, SameTable}
use Rattle.rows.specs.declared.table.TableRef.{TableRef}
use Rattle.rows.specs.Layout.{table_size, table_at}

-- the table that t shows
abbrev pub table_of : {F V : Type 0} → FiniteField V → (F → V) → TableRef F → Table V
table_of K value t = table_at K value t.memory.now t.base t.shape.states t.shape.letters

-- xs is the very elements of memory, n of them, from this one on
abbrev pub PartOf : {F : Type 0} → List F → ℕ → ℕ → List F → Type 0
PartOf memory from n xs = xs ≡ slice_range memory from (from + n)

-- xs has n rows of n elements each, with the values of the matrix m
pub record SquareOf {F V : Type 0} (K : FiniteField V) (value : F → V) (n : ℕ) (m : ℕ → ℕ → V) (xs : List F) : Type 0 where
  pub len : length xs ≡ n * n
  pub same : (i : ℕ) → i < n → Agree n (square_at K value xs 0 n i) (m i)

-- xs has as many elements as the table T takes, with its numbers
pub record HoldsTable {F V : Type 0} (K : FiniteField V) (value : F → V) (T : Table V) (xs : List F) : Type 0 where
  pub len : length xs ≡ table_size T.states T.letters
  pub same : SameTable (table_at K value xs 0 T.states T.letters) T
