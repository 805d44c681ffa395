use Rattle.std.proofs.Common.{◌≡◌, ◌+◌, ◌*◌}
use Rattle.field.specs.Sums.{dot}
use Rattle.field.specs.Rows.{at}
use Rattle.field.proofs.Field.dot.Given as goal

abbrev pub invariant-loop-i : goal.invariant-loop-i
invariant-loop-i g l =
    let K = g.Self.Field.field in let v = g.Self.Field.value in
    v l.sum ≡ dot K l.i (at K v l.row) (λ i. at K v l.ys (l.column + i * l.step))
