-- Two tables with one letter count, and rows of theirs side by side. Assumes nothing.
use Rattle.std.specs.Prelude.{◌≡◌, ℕ, ◌+◌, ◌≢◌, List, Option, MatchOption}
use Rattle.field.specs.FiniteField.{FiniteField}
use Rattle.field.specs.Rows.{at, RowOf}
use Rattle.series.specs.Tables.{Table, pair, pair_step, left_outcome, right_outcome}
use Rattle.series.specs.Words.{Word}
use Rattle.rows.specs.Seen.{table_of}
use Rattle.walk.specs.declared.pairs.Pair.{Pair}
use Rattle.walk.specs.declared.pairs.Weights.{Weights}

module _ {F : Type 0} where
  -- how long a pair row is
  abbrev pub width : Pair F → ℕ
  width both = both.left.shape.states + both.right.shape.states

  -- the table whose rows are the first part of a pair row
  abbrev pub left_table : {V : Type 0} → FiniteField V → (F → V) → Pair F → Table V
  left_table K value both = table_of K value both.left

  -- the table whose rows are the second part
  abbrev pub right_table : {V : Type 0} → FiniteField V → (F → V) → Pair F → Table V
  right_table K value both = table_of K value both.right

-- x and y are different, and these are their codes
pub record Unlike {V : Type 0} (K : FiniteField V) (x y : V) (left right : ℕ) : Type 0 where
  pub differs : x ≢ y
  pub left_is : left ≡ K.code x
  pub right_is : right ≡ K.code y

-- rows as long as a pair row of these two tables
module _ {V : Type 0} (K : FiniteField V) {F : Type 0} (value : F → V) (both : Pair F) where
  -- the row is the pair row of the word w
  abbrev pub PairRow : Word → List F → Type 0
  PairRow w row = RowOf K value (width both) (pair K (left_table K value both) (right_table K value both) w) row

  -- the second row is the first one times the two matrices of the letter a
  abbrev pub Steps : ℕ → List F → List F → Type 0
  Steps a from to = RowOf K value (width both) (pair_step K (left_table K value both) (right_table K value both) a (at K value from)) to

  -- the row's outcome under each of the two tables
  abbrev pub left_of : List F → V
  left_of row = left_outcome K (left_table K value both) (right_table K value both) (at K value row)

  abbrev pub right_of : List F → V
  right_of row = right_outcome K (left_table K value both) (right_table K value both) (at K value row)

  -- nothing where the row's outcomes are the same, and else their codes
  abbrev pub ComparesOutcomes : List F → Option Weights → Type 0
  ComparesOutcomes row r = MatchOption r (left_of row ≡ right_of row) (λ w. Unlike K (left_of row) (right_of row) w.left w.right)
