use Rattle.field.specs.Rows.{at}
use Rattle.field.proofs.Rows.{Filled}
use Rattle.leading.proofs.vectors.negate_row.Given as goal

abbrev pub invariant-loop-x : goal.invariant-loop-x
invariant-loop-x g l =
    let K = g.F.Field.field in let v = g.F.Field.value in
    Filled K v l.x-index (λ j. K.opposite (at K v l.row j)) l.initial.to l.to
