use Rattle.field.proofs.Rows.{Filled}
use Rattle.leading.specs.Units.{unit}
use Rattle.leading.proofs.vectors.unit_row.Given as goal

abbrev pub invariant-loop-j : goal.invariant-loop-j
invariant-loop-j g l = let K = g.F.Field.field in let v = g.F.Field.value in Filled K v l.j (unit K l.place) l.initial.to l.to
