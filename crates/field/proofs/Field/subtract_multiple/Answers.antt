use Rattle.std.proofs.Common.{arith}
use Rattle.field.proofs.Rows.{at_read, filled_more}
use Rattle.field.proofs.Field.subtract_multiple.Goals as goal

pub loop-j-preserved : goal.loop-j-preserved
loop-j-preserved g c =
    let K = g.Self.Field.field in let v = g.Self.Field.value in
    let f = c.loop-j.invariant in
    let x = at_read K v c.loop-j.row c.loop-j.j c.index-row-j.result (omega arith) c.index-row-j.is in
    let y = at_read K v c.args.other.now c.loop-j.j c.index-other-j.result (omega arith) c.index-other-j.is in
    let was = f.rest c.loop-j.j (omega arith) in
    filled_more K v c.add.result f (omega arith) (cc)
