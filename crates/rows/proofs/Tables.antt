-- Rows written one after another, and the table that they make up. Assumes nothing.
use Rattle.std.proofs.Common.{ℕ, ◌+◌, ◌-◌, ◌*◌, ◌≤◌, List, length, refl, ap, ◌∙◌, arith}
use Rattle.std.proofs.lemmas.Nat.{mul-add-lt}
use Rattle.field.specs.FiniteField.{FiniteField}
use Rattle.field.specs.Rows.{at}
use Rattle.rows.specs.Layout.{table_size, table_at}
use Rattle.rows.specs.Tables.{TableWritten}
use Rattle.rows.proofs.Memory.{Copied, copied_written}
use Rattle.rows.proofs.Layouts.{matrix_within}

module _ {F V : Type 0} (K : FiniteField V) (v : F → V) where
  -- a block that is copied holds the same table
  pub copied_table : (n k from : ℕ) {to : ℕ} {src xs ys : List F} → Copied to (table_size n k) src from xs ys → to + table_size n k ≤ length ys → from + table_size n k ≤ length src → TableWritten K v to (table_at K v src from n k) xs ys
  copied_table n k from {to} {src} {xs} {ys} c l h =
      let e = (copied_written K v c l h).done in
      record {
        same = record {
          states = refl;
          letters = refl;
          start = λ i p. e i (omega arith);
          step = λ a low high i p j q.
              let inner = mul-add-lt i n j n p q in
              let outer = matrix_within a k (n * n) low high in
              ap (at K v ys) (omega arith) ∙ e (n + (a - 1) * (n * n) + (i * n + j)) (omega arith) ∙ ap (at K v src) (omega arith);
          end = λ i p. ap (at K v ys) (omega arith) ∙ e (n + k * (n * n) + i) (omega arith) ∙ ap (at K v src) (omega arith);
        };
        frame = c.frame;
      }
