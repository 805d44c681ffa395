use Rattle.std.proofs.Common.{◌≡◌, ◌+◌, ◌*◌, ◌∷◌, [], ◌++◌, length, drop, ap, ◌∙◌, arith}
use Rattle.field.specs.Rows.{Agree, at}
use Rattle.series.specs.Tables.{pair}
use Rattle.elimination.proofs.Offsets.{rows_room}
use Rattle.walk.specs.Pairs.{width, left_table, right_table}
use Rattle.walk.specs.Walking.{kept}
use Rattle.walk.proofs.Differences.{longer_difference}
use Rattle.walk.proofs.PairRows.{longer_word, weighs_same, weighs_unlike}
use Rattle.walk.proofs.WalkSteps.{ready_skip, ready_keep}
use Rattle.walk.proofs.WorkRows.{WorkRows, row_long, row_before_at, others_stay, row_written}
use Rattle.walk.proofs.walk.try_letter.Goals as goal

pub keep_row-requires : goal.keep_row-requires
keep_row-requires g c =
    let a = c.args in
    let d = width a.pair in
    let n = kept a.walk.now in
    let r = c.requires.ready in
    let s = c.split_at_mut-before in
    let work : WorkRows a.rows.now s.result.0.now s.result.1.now n d c.count.result c.width-d.result = record { parts = s.ensures.value; front = s.ensures.front_len; back = s.ensures.back_len; counted = c.count.ensures.told; wide = c.width-d.ensures.both_tables_states; few = r.few; small = omega arith; large = omega arith } in
    let row = c.step_row.new.to in
    let long : length row ≡ d = c.step_row.auto.to ∙ row_long work in
    let room = rows_room n d r.few work.small in
    rw (long, c.deref.ensures.0)
    record { room = omega arith; echelon_form = r.held.basis.stairs; ones_at_pivots = r.held.ones }

pub returns-in-Some-clause-err : goal.returns-in-Some-clause-err
returns-in-Some-clause-err g c =
    let K = g.F.Field.field in let v = g.F.Field.value in
    let a = c.args in
    let S = left_table K v a.pair in
    let T = right_table K v a.pair in
    let d = width a.pair in
    let n = kept a.walk.now in
    let r = c.requires.ready in
    let s = c.split_at_mut-before in
    let work : WorkRows a.rows.now s.result.0.now s.result.1.now n d c.count.result c.width-d.result = record { parts = s.ensures.value; front = s.ensures.front_len; back = s.ensures.back_len; counted = c.count.ensures.told; wide = c.width-d.ensures.both_tables_states; few = r.few; small = omega arith; large = omega arith } in
    let from = a.link.parent * c.width-d.result in
    let before = row_before_at work K v
    a.link.parent from (from + c.width-d.result) r.inside (ap (λ e. a.link.parent * e) work.wide) (ap (λ e. from + e) work.wide) in
    let x = r.words a.link.parent ++ a.link.letter ∷ [] in
    let e : Agree d (at K v c.step_row.new.to) (pair K S T x) = longer_word K v S T (r.words a.link.parent) _ (λ j l. before j l ∙ r.held.rows a.link.parent r.inside j l) a.link.letter c.step_row.new.to (rw (c.from.ensures) at c.step_row.ensures.one_letter_further) in
    record {
      words = r.words;
      linked = r.linked;
      few = r.few;
      inside = r.inside;
      letter = c.requires.letter_of_tables.1;
      difference = longer_difference K S T n r.words a.link.parent a.link.letter c.in-Some.weights.left c.in-Some.weights.right
          r.few r.inside c.requires.letter_of_tables.0 c.requires.letter_of_tables.1 r.scanned r.held.alike (weighs_unlike K v S T x c.step_row.new.to e c.in-Some.ensures.compares_outcomes);
    }

pub returns-in_default-keep_row-clause-ok : goal.returns-in_default-keep_row-clause-ok
returns-in_default-keep_row-clause-ok g c =
    let K = g.F.Field.field in let v = g.F.Field.value in
    let a = c.args in
    let S = left_table K v a.pair in
    let T = right_table K v a.pair in
    let d = width a.pair in
    let n = kept a.walk.now in
    let r = c.requires.ready in
    let s = c.split_at_mut-before in
    let work : WorkRows a.rows.now s.result.0.now s.result.1.now n d c.count.result c.width-d.result = record { parts = s.ensures.value; front = s.ensures.front_len; back = s.ensures.back_len; counted = c.count.ensures.told; wide = c.width-d.ensures.both_tables_states; few = r.few; small = omega arith; large = omega arith } in
    let row = c.step_row.new.to in
    let long : length row ≡ d = c.step_row.auto.to ∙ row_long work in
    let from = a.link.parent * c.width-d.result in
    let before = row_before_at work K v
    a.link.parent from (from + c.width-d.result) r.inside (ap (λ e. a.link.parent * e) work.wide) (ap (λ e. from + e) work.wide) in
    let x = r.words a.link.parent ++ a.link.letter ∷ [] in
    let e : Agree d (at K v c.step_row.new.to) (pair K S T x) = longer_word K v S T (r.words a.link.parent) _ (λ j l. before j l ∙ r.held.rows a.link.parent r.inside j l) a.link.letter c.step_row.new.to (rw (c.from.ensures) at c.step_row.ensures.one_letter_further) in
    let behind = drop c.width-d.result s.result.1.now in
    let stay = others_stay work K v row behind long in
    let left = c.in_default-keep_row.ensures in
    ready_skip K v S T a.link.parent a.link.letter a.walk.now row a.rows.now (s.result.0.now ++ (row ++ behind)) a.echelon.now c.keep_row.new.echelon r e stay
    (rw (long, c.deref.ensures.0) at left.nothing_left_or_new_row) (rw (long, c.deref.ensures.0) at left.all_else_unchanged)

pub returns-in-Some-keep_row-clause-ok : goal.returns-in-Some-keep_row-clause-ok
returns-in-Some-keep_row-clause-ok g c =
    let K = g.F.Field.field in let v = g.F.Field.value in
    let a = c.args in
    let S = left_table K v a.pair in
    let T = right_table K v a.pair in
    let d = width a.pair in
    let n = kept a.walk.now in
    let r = c.requires.ready in
    let s = c.split_at_mut-before in
    let work : WorkRows a.rows.now s.result.0.now s.result.1.now n d c.count.result c.width-d.result = record { parts = s.ensures.value; front = s.ensures.front_len; back = s.ensures.back_len; counted = c.count.ensures.told; wide = c.width-d.ensures.both_tables_states; few = r.few; small = omega arith; large = omega arith } in
    let row = c.step_row.new.to in
    let long : length row ≡ d = c.step_row.auto.to ∙ row_long work in
    let from = a.link.parent * c.width-d.result in
    let before = row_before_at work K v
    a.link.parent from (from + c.width-d.result) r.inside (ap (λ e. a.link.parent * e) work.wide) (ap (λ e. from + e) work.wide) in
    let x = r.words a.link.parent ++ a.link.letter ∷ [] in
    let e : Agree d (at K v c.step_row.new.to) (pair K S T x) = longer_word K v S T (r.words a.link.parent) _ (λ j l. before j l ∙ r.held.rows a.link.parent r.inside j l) a.link.letter c.step_row.new.to (rw (c.from.ensures) at c.step_row.ensures.one_letter_further) in
    let behind = drop c.width-d.result s.result.1.now in
    let stay = others_stay work K v row behind long in
    let written = row_written work K v row behind long in
    let new = c.in-Some-keep_row.ensures in
    ready_keep K v S T a.link c.in-Some-keep_row.pivot a.walk.now c.note.new.self row a.rows.now (s.result.0.now ++ (row ++ behind)) a.echelon.now c.keep_row.new.echelon r
    c.requires.letter_of_tables.0 c.requires.letter_of_tables.1 e stay written (weighs_same K v S T x c.step_row.new.to e c.in_default.ensures.compares_outcomes)
    (rw (long, c.deref.ensures.0) at new.nothing_left_or_new_row) (rw (long, c.deref.ensures.0) at new.all_else_unchanged) c.note.ensures.noted
