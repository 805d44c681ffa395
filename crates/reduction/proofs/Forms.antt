-- The reduced form in memory that is longer than it. Assumes nothing.
use Rattle.std.proofs.Common.{ℕ, ◌+◌, ◌-◌, ◌*◌, ◌≤◌, List, ◌++◌, length, ◌∙◌, arith}
use Rattle.field.specs.FiniteField.{FiniteField}
use Rattle.series.specs.Tables.{Table, SameTable}
use Rattle.rows.specs.Layout.{table_size, matrix_offset, end_offset, table_at}
use Rattle.rows.proofs.Splits.{at_front}
use Rattle.elimination.proofs.Offsets.{entry_before, row_before}

module _ {F V : Type 0} (K : FiniteField V) (v : F → V) (n : ℕ) where
  -- a table that lies in front of a slice
  pub table_front : (k : ℕ) (R : Table V) (xs ys : List F) → table_size n k ≤ length xs → SameTable (table_at K v xs 0 n k) R → SameTable (table_at K v (xs ++ ys) 0 n k) R
  table_front k R xs ys whole s =
      record {
        states = s.states;
        letters = s.letters;
        start = λ i l. at_front K v xs ys (0 + i) (omega (arith, whole)) ∙ s.start i l;
        step = λ a low high i l j g.
            at_front K v xs ys (matrix_offset 0 n a + (i * n + j)) (omega (arith, whole, entry_before i n j n l g, row_before (a - 1) k (n * n) (omega arith))) ∙ s.step a low high i l j g;
        end = λ i l. at_front K v xs ys (end_offset 0 n k + i) (omega (arith, whole)) ∙ s.end i l;
      }
