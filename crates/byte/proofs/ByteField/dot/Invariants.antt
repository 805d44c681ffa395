use Rattle.byte.proofs.Rows.{Summed}
use Rattle.byte.proofs.ByteField.dot.Given as goal

abbrev pub invariant-loop-i : goal.invariant-loop-i
invariant-loop-i l = Summed l.row l.ys l.column l.step l.i l.sum

abbrev pub invariant-loop-i-2 : goal.invariant-loop-i-2
invariant-loop-i-2 l = Summed l.row l.ys l.column l.step l.i l.sum

abbrev pub invariant-loop-i-3 : goal.invariant-loop-i-3
invariant-loop-i-3 l = Summed l.row l.ys l.column l.step l.i l.sum
