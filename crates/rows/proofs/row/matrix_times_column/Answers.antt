use Rattle.std.proofs.Common.{ap, ◌∙◌, arith, length, ◌+◌, ◌*◌}
use Rattle.std.proofs.lemmas.Nat.{mul-le}
use Rattle.field.specs.Rows.{at}
use Rattle.field.proofs.Rows.{dot_same, filled_more}
use Rattle.rows.proofs.Slices.{dot_part}
use Rattle.rows.proofs.row.matrix_times_column.Goals as goal

pub loop-i-preserved : goal.loop-i-preserved
loop-i-preserved g c =
    let K = g.F.Field.field in let v = g.F.Field.value in
    let n = length c.args.column.now in
    let from = c.loop-i.i * n in
    filled_more K v c.dot.result c.loop-i.invariant (omega arith)
    (c.dot.ensures.is_dot_product
    ∙ dot_part K v from (from + n) n c.args.matrix.now _ (omega arith) (omega (arith, mul-le (c.loop-i.i + 1) n n n (omega arith) (omega arith)))
    ∙ dot_same K n (λ i l. ap (at K v c.args.matrix.now) (omega arith)) (λ i l. ap (at K v c.args.column.now) (omega arith)))
