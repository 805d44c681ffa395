use Rattle.field.specs.Rows.{at}
use Rattle.rows.specs.Arithmetic.{multiple}
use Rattle.field.proofs.Rows.{Filled}
use Rattle.rows.proofs.row.scale_row.Given as goal

abbrev pub invariant-loop-x : goal.invariant-loop-x
invariant-loop-x g l =
    let K = g.F.Field.field in let v = g.F.Field.value in
    Filled K v l.x-index (multiple K (v l.factor) (at K v l.initial.row)) l.initial.row l.row
