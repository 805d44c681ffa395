use Rattle.field.specs.Rows.{at}
use Rattle.field.specs.Sums.{less_multiple}
use Rattle.field.proofs.Rows.{Filled}
use Rattle.field.proofs.Field.subtract_multiple.Given as goal

abbrev pub invariant-loop-j : goal.invariant-loop-j
invariant-loop-j g l =
    let K = g.Self.Field.field in let v = g.Self.Field.value in
    Filled K v l.j (less_multiple K (at K v l.initial.row) (v l.factor) (at K v l.other)) l.initial.row l.row
