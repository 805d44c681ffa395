use Rattle.leading.specs.Forward.{Trying}
use Rattle.leading.proofs.forward.try_letters.Given as goal

abbrev pub invariant-loop-letter : goal.invariant-loop-letter
invariant-loop-letter g l = Trying g.F.Field.field g.F.Field.value l.view l.i l.letter l.pivots.items l.rows l.tracked l.coefficients
