use Rattle.field.specs.Rows.{square_at}
use Rattle.field.proofs.Rows.{Filled}
use Rattle.operations.proofs.turning.write_turned_row.Given as goal

abbrev pub invariant-loop-j : goal.invariant-loop-j
invariant-loop-j g l =
    let K = g.F.Field.field in let v = g.F.Field.value in
    Filled K v l.j (λ j. square_at K v l.matrix 0 l.n j l.row) l.initial.to l.to
