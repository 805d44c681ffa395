use Rattle.std.proofs.Common.{ap, ◌∙◌}
use Rattle.field.specs.Sums.{move}
use Rattle.series.specs.Operations.{after_table}
use Rattle.series.proofs.Operations.{after_weight}
use Rattle.field.specs.Rows.{at, square_at}
use Rattle.rows.specs.Seen.{table_of}
use Rattle.field.proofs.Rows.{dot_same}
use Rattle.rows.proofs.Held.{held_but_start, held_weighs, row_long, row_same}
use Rattle.operations.proofs.adjusting.after.Goals as goal

pub returns : goal.returns
returns g c =
    let K = g.F.Field.field in let v = g.F.Field.value in
    let T = table_of K v c.args.table in
    let start = c.start.result.now in
    let matrix = c.matrix.result.now in
    let row = c.start.ensures.start_row in
    let first =
    row_same K v (row_long K v c.row_times_matrix.ensures.product_written row.len)
    (λ j l.
    ap (λ m. move K m (square_at K v matrix 0 m) (at K v start) j) row.len
    ∙ dot_same K T.states row.same (λ i h. c.matrix.ensures.matrix_of_letter.same i h j l)) in
    let rest = simp (c.states-n.ensures.told) at c.copy_from_slice.ensures.after in
    let made = held_but_start K v T c.elements.result.now c.row_times_matrix.new.to c.copy_from_slice.new.self c.elements.ensures.holds_it first rest in
    record { after_written = made; weighs_what_follows_the_letter = λ w o. held_weighs K v (after_table K c.args.letter T) _ made w o ∙ after_weight K c.args.letter T w }
