-- The weights of a table, and a table that is written into a slice of elements. Assumes nothing.
use Rattle.std.specs.Prelude.{◌≡◌, ℕ, List}
use Rattle.field.specs.FiniteField.{FiniteField}
use Rattle.series.specs.Words.{Word, Over}
use Rattle.series.specs.Tables.{Table, SameTable, weight}
use Rattle.rows.specs.Layout.{table_size, table_at}
use Rattle.rows.specs.Memory.{Frame}

-- T weighs every word over its letters as f says
abbrev pub Weighs : {V : Type 0} → FiniteField V → Table V → (Word → V) → Type 0
Weighs K T f = (w : Word) → Over T.letters w → weight K T w ≡ f w

-- the numbers of T lie at `to`, and every element outside its block is the very element it was
pub record TableWritten {F V : Type 0} (K : FiniteField V) (value : F → V) (to : ℕ) (T : Table V) (xs ys : List F) : Type 0 where
  pub same : SameTable (table_at K value ys to T.states T.letters) T
  pub frame : Frame to (table_size T.states T.letters) xs ys
