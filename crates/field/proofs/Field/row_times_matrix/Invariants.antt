use Rattle.std.proofs.Common.{length}
use Rattle.field.specs.Sums.{move}
use Rattle.field.specs.Rows.{at, square_at}
use Rattle.field.proofs.Rows.{Filled}
use Rattle.field.proofs.Field.row_times_matrix.Given as goal

abbrev pub invariant-loop-j : goal.invariant-loop-j
invariant-loop-j g l =
    let K = g.Self.Field.field in let v = g.Self.Field.value in
    let n = length l.row in
    Filled K v l.j (move K n (square_at K v l.matrix 0 n) (at K v l.row)) l.initial.to l.to
