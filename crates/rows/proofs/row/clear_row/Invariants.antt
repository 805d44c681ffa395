use Rattle.field.proofs.Rows.{Filled}
use Rattle.rows.proofs.row.clear_row.Given as goal

abbrev pub invariant-loop-x : goal.invariant-loop-x
invariant-loop-x g l = let K = g.F.Field.field in let v = g.F.Field.value in Filled K v l.x-index (λ _. K.zero) l.initial.to l.to
