use Rattle.std.proofs.Common.{ap, ◌∙◌, arith}
use Rattle.std.proofs.lemmas.Nat.{mul-add-lt}
use Rattle.field.specs.Rows.{at}
use Rattle.field.proofs.Rows.{at_read, filled_more}
use Rattle.operations.proofs.turning.write_turned_row.Goals as goal

pub loop-j-preserved : goal.loop-j-preserved
loop-j-preserved g c =
    let K = g.F.Field.field in let v = g.F.Field.value in
    let n = c.states-n.result in
    let len = rw (← c.states-n.ensures.told) at c.matrix-matrix.ensures.matrix_of_letter.len in
    filled_more K v c.index-matrix-j.result c.loop-j.invariant (omega arith)
    (at_read K v c.matrix-matrix.result.now _ c.index-matrix-j.result (omega (arith, len, mul-add-lt c.loop-j.j n c.args.row n (omega arith) (omega arith))) c.index-matrix-j.is ∙ ap (at K v c.matrix-matrix.result.now) (omega arith))
