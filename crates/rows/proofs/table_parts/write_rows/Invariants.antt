use Rattle.rows.proofs.Writing.{Progress}
use Rattle.rows.proofs.table_parts.write_rows.Given as goal

abbrev pub invariant-loop-r : goal.invariant-loop-r
invariant-loop-r g l = Progress g.R.Fn l.write_row l.n l.r l.fn.to l.to
