use Rattle.std.proofs.Common.{◌≡◌, sym, ap, ◌∙◌, ◌+◌, ◌-◌, arith}
use Rattle.series.specs.Tables.{beside}
use Rattle.series.proofs.Places.{beside_left, beside_right}
use Rattle.rows.specs.Seen.{table_of}
use Rattle.rows.proofs.Held.{row_beside, row_copied, row_same, row_long}
use Rattle.operations.proofs.addition.write_sum_row.Goals as goal

pub returns-then-row-n : goal.returns-then-row-n
returns-then-row-n g c =
    let K = g.F.Field.field in let v = g.F.Field.value in
    let S = table_of K v c.args.left in
    let T = table_of K v c.args.right in
    let n = S.states in
    let a = c.args.letter in
    let i = c.args.row in
    record {
      row_of_sum_table =
          row_same K v
          (row_beside K v c.copy_from_slice.new.self c.clear_row.new.to (row_copied K v c.copy_from_slice.ensures.after c.matrix_row.ensures.row_of_matrix) (row_long K v c.clear_row.ensures.zeros_written (omega arith)))
          (λ j l. sym (ap (λ f. f j) (beside_left n (λ i. beside n (S.step a i) (λ j. K.zero)) (λ i. beside n (λ j. K.zero) (T.step a i)) i (omega arith))));
    }

pub returns-else-row-n : goal.returns-else-row-n
returns-else-row-n g c =
    let K = g.F.Field.field in let v = g.F.Field.value in
    let S = table_of K v c.args.left in
    let T = table_of K v c.args.right in
    let n = S.states in
    let a = c.args.letter in
    let i = c.args.row - n in
    let whole : c.args.row ≡ n + i = omega arith in
    let here : c.args.row - c.states-n.result ≡ i = omega arith in
    record {
      row_of_sum_table =
          row_same K v
          (row_beside K v c.clear_row-else-row-n.new.to c.copy_from_slice-else-row-n.new.self (row_long K v c.clear_row-else-row-n.ensures.zeros_written (omega arith)) (row_copied K v c.copy_from_slice-else-row-n.ensures.after (rw here at c.matrix_row-else-row-n.ensures.row_of_matrix)))
          (λ j l. sym (ap (λ r. beside n (λ i. beside n (S.step a i) (λ j. K.zero)) (λ i. beside n (λ j. K.zero) (T.step a i)) r j) whole
          ∙ ap (λ f. f j) (beside_right n (λ i. beside n (S.step a i) (λ j. K.zero)) (λ i. beside n (λ j. K.zero) (T.step a i)) i)));
    }
