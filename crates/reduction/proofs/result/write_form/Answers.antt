use Rattle.std.proofs.Common.{rules, length, refl, ap, ◌∙◌}
use Rattle.field.specs.Sums.{dot}
use Rattle.series.proofs.Weights.{dot_comm}
use Rattle.field.specs.Rows.{at, row_at, RowOf}
use Rattle.rows.specs.Layout.{table_size}
use Rattle.rows.specs.Seen.{table_of}
use Rattle.field.proofs.Rows.{dot_same}
use Rattle.rows.proofs.Held.{row_long, row_same}
use Rattle.rows.proofs.Writing.{held_by_calls}
use Rattle.spanning.specs.Places.{vector_at, coefficients_at}
use Rattle.spanning.specs.Views.{columns_of}
use Rattle.leading.specs.Units.{unit}
use Rattle.reduction.specs.Result.{form_of}
use Rattle.reduction.proofs.result.write_form.Goals as goal

pub returns : goal.returns
returns g c =
    let K = g.F.Field.field in let v = g.F.Field.value in
    let T = table_of K v c.args.table in
    let n = c.args.shape.states in
    let rs = c.args.rows.now in
    let ks = c.args.coefficients.now in
    let column = c.end-column.result.now in
    let seen = c.end-column.ensures.end_column in
    let done = c.write_table.ensures in
    let start = done.start_written in
    let end = done.end_written in
    let starts = start.call in
    let ends = end.call in
    let first : RowOf K v (length start.argument.now) (unit K 0) start.after_call.now = search rules in
    let last : RowOf K v (length end.argument.now) (λ i. dot K (length column) (at K v column) (columns_of K v rs i)) end.after_call.now = search rules in
    let made =
    held_by_calls K v (form_of K v T n rs ks) start done.rows_written end refl c.requires.same_letters (c.write_table.auto.to ∙ c.requires.whole ∙ ap (table_size n) c.requires.same_letters)
    (row_long K v first start.as_long)
    (λ a i low high l.
    let row = done.rows_written a i low high l in
    let call = row.call in
    let written : RowOf K v (length row.argument.now) (row_at K v ks (coefficients_at i a)) row.after_call.now = search rules in
    row_long K v written row.as_long)
    (row_same K v (row_long K v last end.as_long)
    (λ i l.
    dot_comm K (length column) (at K v column) (columns_of K v rs i)
    ∙ ap (λ m. dot K m (row_at K v rs (vector_at i)) (at K v column)) seen.len
    ∙ dot_same K T.states (λ j h. refl) seen.same)) in
    record { form_written = made.same }
