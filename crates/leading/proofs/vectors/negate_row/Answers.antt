use Rattle.std.proofs.Common.{ap, arith}
use Rattle.field.specs.Rows.{at}
use Rattle.field.proofs.Rows.{at_read, filled_more}
use Rattle.leading.proofs.vectors.negate_row.Goals as goal

pub loop-x-preserved : goal.loop-x-preserved
loop-x-preserved g c =
    let K = g.F.Field.field in let v = g.F.Field.value in
    let f = c.loop-x.invariant in
    let x = at_read K v c.loop-x.to c.loop-x.x-index c.x-item.result (omega arith) c.x-item.is in
    let was = f.rest c.loop-x.x-index (omega arith) in
    let copied = ap (λ xs. at K v xs c.loop-x.x-index) c.copy_from_slice.ensures.after in
    filled_more K v c.neg.result f (omega arith) (cc)
