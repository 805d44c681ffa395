use Rattle.std.proofs.Common.{[], ◌++◌, drop}
use Rattle.rows.proofs.Splits.{at_front}
use Rattle.walk.specs.Pairs.{left_table, right_table}
use Rattle.walk.proofs.Differences.{empty_difference}
use Rattle.walk.proofs.PairRows.{weighs_same, weighs_unlike}
use Rattle.walk.proofs.WalkSteps.{passed_none, passed_first}
use Rattle.walk.proofs.walk.try_empty.Goals as goal

pub returns-in-Some-clause-err : goal.returns-in-Some-clause-err
returns-in-Some-clause-err g c =
    let K = g.F.Field.field in let v = g.F.Field.value in
    let a = c.args in
    empty_difference K (left_table K v a.pair) (right_table K v a.pair) c.in-Some.weights.left c.in-Some.weights.right
    (weighs_unlike K v (left_table K v a.pair) (right_table K v a.pair) [] c.start_row.new.to c.start_row.ensures.pair_row_of_empty_word.same c.in-Some.ensures.compares_outcomes)

pub returns-in_default-keep_row-clause-ok : goal.returns-in_default-keep_row-clause-ok
returns-in_default-keep_row-clause-ok g c =
    let K = g.F.Field.field in let v = g.F.Field.value in
    let a = c.args in
    let S = left_table K v a.pair in
    let T = right_table K v a.pair in
    let start = c.start_row.ensures.pair_row_of_empty_word in
    let row = c.start_row.new.to in
    let behind = drop c.width.result a.rows.now in
    let left = c.in_default-keep_row.ensures in
    passed_none K v S T a.walk.now a.walk.now.pivots.items row a.rows.now a.echelon.now (row ++ behind) c.keep_row.new.echelon c.requires.no_word start.same
    (rw (start.len, c.deref.ensures.0, c.requires.no_word) at left.nothing_left_or_new_row)

pub returns-in-Some-keep_row-clause-ok : goal.returns-in-Some-keep_row-clause-ok
returns-in-Some-keep_row-clause-ok g c =
    let K = g.F.Field.field in let v = g.F.Field.value in
    let a = c.args in
    let S = left_table K v a.pair in
    let T = right_table K v a.pair in
    let start = c.start_row.ensures.pair_row_of_empty_word in
    let row = c.start_row.new.to in
    let behind = drop c.width.result a.rows.now in
    let new = c.in-Some-keep_row.ensures in
    passed_first K v S T c.in-Some-keep_row.pivot c.default.result a.walk.now c.note.new.self row a.rows.now a.echelon.now (row ++ behind) c.keep_row.new.echelon c.requires.no_word start.same
    (λ j l. at_front K v row behind j (rw start.len l)) (weighs_same K v S T [] row start.same c.in_default.ensures.compares_outcomes)
    (rw (start.len, c.deref.ensures.0, c.requires.no_word) at new.nothing_left_or_new_row) (rw (start.len, c.deref.ensures.0, c.requires.no_word) at new.all_else_unchanged) c.note.ensures.noted
