use Rattle.std.proofs.Common.{◌-◌}
use Rattle.walk.specs.Pairs.{width, left_table, right_table}
use Rattle.walk.specs.Walking.{Passed}
use Rattle.walk.proofs.walk.try_rest.Given as goal

abbrev pub invariant-loop-i : goal.invariant-loop-i
invariant-loop-i g l =
    let K = g.F.Field.field in let v = g.F.Field.value in
    Passed K v (left_table K v l.pair) (right_table K v l.pair) l.i l.walk l.rows l.echelon

-- there are at most as many kept words as states
abbrev pub decreases-loop-i : goal.decreases-loop-i
decreases-loop-i g l = width l.pair - l.i
