use Rattle.std.proofs.Common.{rules, ap₂, ◌*◌, ◌∙◌, length, arith}
use Rattle.series.specs.Operations.{product_table, crossed}
use Rattle.series.proofs.ProductTables.{product_weight}
use Rattle.field.specs.Rows.{at, RowOf}
use Rattle.rows.specs.Seen.{table_of}
use Rattle.rows.proofs.Held.{held_weighs}
use Rattle.operations.proofs.Products.{products_of}
use Rattle.rows.proofs.Writing.{held_by_calls}
use Rattle.operations.proofs.multiplication.multiply.Goals as goal

pub returns : goal.returns
returns g c =
    let K = g.F.Field.field in let v = g.F.Field.value in
    let S = table_of K v c.args.left in
    let T = table_of K v c.args.right in
    let done = c.write_table.ensures in
    let start = done.start_written.call in
    let end = done.end_written.call in
    let x = c.start-left_start.result.now in let y = c.start-right_start.result.now in
    let first : RowOf K v (length x * length y) (crossed K (length y) (at K v x) (at K v y)) done.start_written.after_call.now = search rules in
    let p = c.end-left_end.result.now in let q = c.end-right_end.result.now in
    let last : RowOf K v (length p * length q) (crossed K (length q) (at K v p) (at K v q)) done.end_written.after_call.now = search rules in
    let made =
    held_by_calls K v (product_table K S T) done.start_written done.rows_written done.end_written
    (c.new-shape.ensures.of_states ∙ ap₂ (λ a b. a * b) c.states.ensures.told c.states-2.ensures.told) (omega arith) (omega arith)
    (products_of K v c.start-left_start.ensures.start_row c.start-right_start.ensures.start_row first)
    (λ a i low high l. let row = (done.rows_written a i low high l).call in search rules)
    (products_of K v c.end-left_end.ensures.end_column c.end-right_end.ensures.end_column last) in
    record { product_written = made; weighs_the_product = λ w o. held_weighs K v (product_table K S T) c.write_table.new.to made w o ∙ product_weight K S T w }
