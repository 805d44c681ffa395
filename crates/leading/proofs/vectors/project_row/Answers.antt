use Rattle.std.proofs.Common.{ap, ◌∙◌, length, refl, arith}
use Rattle.field.specs.Rows.{at}
use Rattle.field.proofs.Rows.{dot_same, filled_more}
use Rattle.leading.proofs.vectors.project_row.Goals as goal

pub loop-j-preserved : goal.loop-j-preserved
loop-j-preserved g c =
    let K = g.F.Field.field in let v = g.F.Field.value in
    filled_more K v c.dot.result c.loop-j.invariant (omega arith)
    (c.dot.ensures.is_dot_product ∙ dot_same K (length c.args.row.now) (λ i l. refl) (λ i l. ap (at K v c.args.columns.now) (omega arith)))
