use Rattle.series.specs.Operations.{crossed}
use Rattle.field.specs.Rows.{at}
use Rattle.field.proofs.Rows.{Filled}
use Rattle.operations.proofs.multiplication.write_products.Given as goal

abbrev pub invariant-loop-p : goal.invariant-loop-p
invariant-loop-p g l =
    let K = g.F.Field.field in let v = g.F.Field.value in
    Filled K v l.p (crossed K l.m (at K v l.left) (at K v l.right)) l.initial.to l.to
