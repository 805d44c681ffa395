use Rattle.std.proofs.Common.{◌-◌}
use Rattle.leading.specs.Forward.{Walked}
use Rattle.leading.proofs.forward.follow_words.Given as goal

abbrev pub invariant-loop-i : goal.invariant-loop-i
invariant-loop-i g l = Walked g.F.Field.field g.F.Field.value l.view l.i l.pivots.items l.rows l.tracked l.coefficients

abbrev pub decreases-loop-i : goal.decreases-loop-i
decreases-loop-i g l = l.view.count - l.i
