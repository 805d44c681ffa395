use Rattle.std.proofs.Common.{ap₂, ◌∙◌, length, arith}
use Rattle.rows.proofs.Layouts.{matrix_row}
use Rattle.field.proofs.Rows.{at_read, filled_more}
use Rattle.operations.proofs.multiplication.write_products.Goals as goal

pub loop-p-preserved : goal.loop-p-preserved
loop-p-preserved g c =
    let K = g.F.Field.field in let v = g.F.Field.value in
    let at = matrix_row (length c.args.left.now) (length c.args.right.now) c.loop-p.p (omega arith) in
    filled_more K v c.mul.result c.loop-p.invariant (omega arith)
    (c.mul.ensures.is_product
    ∙ ap₂ K.times
    (at_read K v c.args.left.now _ c.index-left-p.result (omega (arith, at.letter)) c.index-left-p.is)
    (at_read K v c.args.right.now _ c.index-right-p.result (omega (arith, at.state)) c.index-right-p.is))
