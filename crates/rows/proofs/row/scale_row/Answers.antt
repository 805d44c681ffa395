use Rattle.std.proofs.Common.{arith}
use Rattle.field.proofs.Rows.{at_read, filled_more}
use Rattle.rows.proofs.row.scale_row.Goals as goal

pub loop-x-preserved : goal.loop-x-preserved
loop-x-preserved g c =
    let K = g.F.Field.field in let v = g.F.Field.value in
    let f = c.loop-x.invariant in
    let x = at_read K v c.loop-x.row c.loop-x.x-index c.x-item.result (omega arith) c.x-item.is in
    let was = f.rest c.loop-x.x-index (omega arith) in
    filled_more K v c.mul.result f (omega arith) (cc)
