use Rattle.walk.specs.Pairs.{left_table, right_table}
use Rattle.walk.specs.Walking.{Ready}
use Rattle.walk.proofs.walk.try_letters.Given as goal

abbrev pub invariant-loop-letter : goal.invariant-loop-letter
invariant-loop-letter g l =
    let K = g.F.Field.field in let v = g.F.Field.value in
    Ready K v (left_table K v l.pair) (right_table K v l.pair) l.i l.letter l.walk l.rows l.echelon
