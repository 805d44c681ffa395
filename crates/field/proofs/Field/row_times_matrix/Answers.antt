use Rattle.std.proofs.Common.{◌∙◌, arith, length}
use Rattle.field.proofs.Rows.{filled_more, move_by_dot}
use Rattle.field.proofs.Field.row_times_matrix.Goals as goal

pub loop-j-preserved : goal.loop-j-preserved
loop-j-preserved g c =
    let K = g.Self.Field.field in let v = g.Self.Field.value in
    filled_more K v c.dot.result c.loop-j.invariant (omega arith)
    (c.dot.ensures.is_dot_product ∙ move_by_dot K v (length c.args.row.now) c.loop-j.j c.args.row.now c.args.matrix.now)
