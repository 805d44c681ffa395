use Rattle.columns.proofs.Begun.{Reached}
use Rattle.columns.proofs.column.scan.Given as goal

abbrev pub invariant-loop-i : goal.invariant-loop-i
invariant-loop-i l = Reached l.bytes l.i l.prefix
