use Rattle.std.proofs.Common.{rules, ◌≡◌, ◌++◌, ◌∙◌, arith}
use Rattle.series.specs.Operations.{sum_table}
use Rattle.series.proofs.Operations.{sum_weight}
use Rattle.rows.specs.Seen.{table_of}
use Rattle.rows.proofs.Held.{row_beside, row_copied, held_weighs}
use Rattle.rows.proofs.Writing.{held_by_calls}
use Rattle.operations.proofs.addition.sum.Goals as goal

pub returns : goal.returns
returns g c =
    let K = g.F.Field.field in let v = g.F.Field.value in
    let S = table_of K v c.args.left in
    let T = table_of K v c.args.right in
    let done = c.write_table.ensures in
    let start = done.start_written.call in
    let end = done.end_written.call in
    let first : done.start_written.after_call.now ≡ c.start-left_start.result.now ++ c.start-right_start.result.now = search rules in
    let last : done.end_written.after_call.now ≡ c.end-left_end.result.now ++ c.end-right_end.result.now = search rules in
    let made =
    held_by_calls K v (sum_table K S T) done.start_written done.rows_written done.end_written (omega arith) (omega arith) (omega arith)
    (row_copied K v first (row_beside K v _ _ c.start-left_start.ensures.start_row c.start-right_start.ensures.start_row))
    (λ a i low high l. let row = (done.rows_written a i low high l).call in search rules)
    (row_copied K v last (row_beside K v _ _ c.end-left_end.ensures.end_column c.end-right_end.ensures.end_column)) in
    record { sum_written = made; weighs_the_sum = λ w o. held_weighs K v (sum_table K S T) c.write_table.new.to made w o ∙ sum_weight K S T w }
