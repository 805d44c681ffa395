use Rattle.std.proofs.Common.{length, get_or}
use Rattle.field.specs.Rows.{at, square_at, RowOf}
use Rattle.field.specs.Sums.{less_rows}
use Rattle.field.proofs.Field.subtract_rows.Given as goal

abbrev pub invariant-loop-b : goal.invariant-loop-b
invariant-loop-b g l =
    let K = g.Self.Field.field in let v = g.Self.Field.value in
    let n = length l.initial.row in
    RowOf K v n (less_rows K l.b (square_at K v l.rows 0 n) (λ b. get_or l.pivots b 0) (at K v l.initial.row)) l.row
