use Rattle.std.proofs.Common.{rules, ap, ◌≡◌, ◌∙◌, arith}
use Rattle.series.specs.Operations.{turned_table}
use Rattle.series.proofs.Operations.{turned_weight}
use Rattle.rows.specs.Seen.{table_of}
use Rattle.rows.proofs.Held.{row_copied, held_weighs}
use Rattle.rows.proofs.Writing.{held_by_calls}
use Rattle.operations.proofs.turning.turn.Goals as goal

pub returns : goal.returns
returns g c =
    let K = g.F.Field.field in let v = g.F.Field.value in
    let T = table_of K v c.args.table in
    let done = c.write_table.ensures in
    let start = done.start_written.call in
    let end = done.end_written.call in
    let first : done.start_written.after_call.now ≡ c.end-end.result.now = search rules in
    let last : done.end_written.after_call.now ≡ c.start-start.result.now = search rules in
    let made =
    held_by_calls K v (turned_table K T) done.start_written done.rows_written done.end_written
    (ap (λ s. s.states) c.shape.ensures.told) (ap (λ s. s.letters) c.shape.ensures.told) (omega arith)
    (row_copied K v first c.end-end.ensures.end_column)
    (λ a i low high l. let row = (done.rows_written a i low high l).call in search rules)
    (row_copied K v last c.start-start.ensures.start_row) in
    record { turned_written = made; weighs_words_backwards = λ w o. held_weighs K v (turned_table K T) c.write_table.new.to made w o ∙ turned_weight K T w }
