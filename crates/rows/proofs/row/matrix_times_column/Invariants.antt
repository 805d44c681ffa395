use Rattle.std.proofs.Common.{length}
use Rattle.field.specs.Sums.{dot}
use Rattle.field.specs.Rows.{at, square_at}
use Rattle.field.proofs.Rows.{Filled}
use Rattle.rows.proofs.row.matrix_times_column.Given as goal

abbrev pub invariant-loop-i : goal.invariant-loop-i
invariant-loop-i g l =
    let K = g.F.Field.field in let v = g.F.Field.value in
    let n = length l.column in
    Filled K v l.i (λ i. dot K n (square_at K v l.matrix 0 n i) (at K v l.column)) l.initial.to l.to
