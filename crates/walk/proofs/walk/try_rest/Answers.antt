use Rattle.walk.specs.Pairs.{left_table, right_table}
use Rattle.walk.proofs.WalkSteps.{ready_passed}
use Rattle.walk.proofs.walk.try_rest.Goals as goal

pub loop-i-preserved : goal.loop-i-preserved
loop-i-preserved g c =
    let K = g.F.Field.field in let v = g.F.Field.value in
    let a = c.args in
    ready_passed K v (left_table K v a.pair) (right_table K v a.pair) c.loop-i.i c.try_letters.new.walk c.try_letters.new.rows c.try_letters.new.echelon c.in_ok-try_letters.ensures.ok
