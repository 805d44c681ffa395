use Rattle.std.proofs.Common.{◌≡◌, length, ap, arith}
use Rattle.std.proofs.lemmas.List.{length-take-le}
use Rattle.leading.proofs.LeadingWords.{stairs, ones, tried_skip, tried_keep}
use Rattle.leading.proofs.forward.try_letter.Goals as goal

pub slice_bounds-seen-end-2 : goal.slice_bounds-seen-end-2
slice_bounds-seen-end-2 g c = let wide = length-take-le 32 c.split_at_mut-basis.result.1.now (omega (arith, c.requires.due.held.room.1.0, c.requires.due.few, c.args.view.now.few)) in omega arith

pub next_row-requires-clause-wide : goal.next_row-requires-clause-wide
next_row-requires-clause-wide g c = length-take-le 32 c.split_at_mut-basis.result.1.now (omega (arith, c.requires.due.held.room.1.0, c.requires.due.few, c.args.view.now.few))

pub track_row-requires : goal.track_row-requires
track_row-requires g c =
    let K = g.F.Field.field in let v = g.F.Field.value in
    let a = c.args in
    let ps = a.pivots.now.items in
    let due = c.requires.due in
    let few = due.few in
    let split = c.split_at_mut-basis in
    let next = c.next_row.ensures in
    let wide = length-take-le 32 split.result.1.now (omega (arith, due.held.room.1.0, a.view.now.few)) in
    let seen = c.next_row.auto.seen in
    let read : length c.deref.result.now ≡ length ps = ap length c.deref.ensures.0 in
    record {
      small = (omega (arith, a.view.now.few), omega (arith, read));
      wide = omega arith;
      rows_within = omega (arith, read);
      echelon = stairs K v a.view.now a.i a.letter c.len-count.result ps a.rows.now a.tracked.now a.coefficients.now c.next_row.new.rows split.result.0.now split.result.1.now c.next_row.new.seen due (omega arith) (omega arith) c.len-count.ensures.value split.ensures.value split.ensures.front_len next.row_written next.products_written c.deref.result.now c.deref.ensures.0;
      ones_at_pivots = ones K v a.view.now a.i a.letter c.len-count.result ps a.rows.now a.tracked.now a.coefficients.now c.next_row.new.rows split.result.0.now split.result.1.now c.next_row.new.seen due (omega arith) (omega arith) c.len-count.ensures.value split.ensures.value split.ensures.front_len next.row_written next.products_written c.deref.result.now c.deref.ensures.0;
      no_coefficients = next.no_coefficients;
    }

pub returns-in-None : goal.returns-in-None
returns-in-None g c =
    let a = c.args in
    let due = c.requires.due in
    let split = c.split_at_mut-basis in
    let next = c.next_row.ensures in
    let wide = length-take-le 32 split.result.1.now (omega (arith, due.held.room.1.0, due.few, a.view.now.few)) in
    let seen = c.next_row.auto.seen in
    let row = c.track_row.auto.row in
    record {
      next_due =
          tried_skip g.F.Field.field g.F.Field.value a.view.now a.i a.letter c.len-count.result a.pivots.now.items a.rows.now a.tracked.now a.coefficients.now c.next_row.new.rows split.result.0.now split.result.1.now c.next_row.new.seen due (omega arith) (omega arith)
          c.len-count.ensures.value split.ensures.value split.ensures.front_len next.row_written next.products_written c.track_row.new.row c.negate_row.new.to (omega arith)
          c.deref.result.now c.deref.ensures.0 c.in-None.ensures.combination_or_new_row c.negate_row.ensures.opposites_written;
    }

pub returns-in-Some : goal.returns-in-Some
returns-in-Some g c =
    let a = c.args in
    let due = c.requires.due in
    let split = c.split_at_mut-basis in
    let next = c.next_row.ensures in
    let wide = length-take-le 32 split.result.1.now (omega (arith, due.held.room.1.0, due.few, a.view.now.few)) in
    let seen = c.next_row.auto.seen in
    let row = c.track_row.auto.row in
    record {
      next_due =
          tried_keep g.F.Field.field g.F.Field.value a.view.now a.i a.letter c.len-count.result a.pivots.now.items a.rows.now a.tracked.now a.coefficients.now c.next_row.new.rows split.result.0.now split.result.1.now c.next_row.new.seen due (omega arith) (omega arith)
          c.len-count.ensures.value split.ensures.value split.ensures.front_len next.row_written next.products_written c.track_row.new.row c.unit_row.new.to (omega arith)
          c.in-Some.pivot c.deref.result.now c.push.new.self.items c.deref.ensures.0 c.push.ensures.items c.in-Some.ensures.combination_or_new_row c.unit_row.ensures.unit_written;
    }
