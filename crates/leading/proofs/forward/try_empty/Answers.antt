use Rattle.std.proofs.Common.{sym, ◌∙◌, subst, arith}
use Rattle.std.proofs.lemmas.List.{length-take-le}
use Rattle.field.specs.Rows.{RowOf}
use Rattle.leading.specs.Forward.{viewed}
use Rattle.leading.proofs.LeadingWords.{empty_skip, empty_keep}
use Rattle.leading.proofs.forward.try_empty.Goals as goal

pub slice_bounds-seen-end-2 : goal.slice_bounds-seen-end-2
slice_bounds-seen-end-2 g c = let wide = length-take-le 32 c.args.tracked.now (omega (arith, c.requires.room.1)) in omega arith

pub see_row-requires-clause-wide : goal.see_row-requires-clause-wide
see_row-requires-clause-wide g c = length-take-le 32 c.args.tracked.now (omega (arith, c.requires.room.1))

pub track_row-requires-clause-wide : goal.track_row-requires-clause-wide
track_row-requires-clause-wide g c =
    let wide = length-take-le 32 c.args.tracked.now (omega (arith, c.requires.room.1)) in
    let seen = c.see_row.auto.seen in
    omega arith

pub returns-in-Some : goal.returns-in-Some
returns-in-Some g c =
    let K = g.F.Field.field in let v = g.F.Field.value in
    let a = c.args in
    let T = viewed K v a.view.now in
    let start = subst (RowOf K v T.states T.start) (sym c.copy_from_slice.ensures.after) c.start.ensures.start_row in
    let wide = length-take-le 32 a.tracked.now (omega (arith, c.requires.room.1)) in
    let seen = c.see_row.auto.seen in
    let row = c.track_row.auto.row in
    record {
      begun = λ ks room.
          empty_keep K v a.view.now c.states.result c.states.ensures.told a.rows.now a.tracked.now c.copy_from_slice.new.self c.see_row.new.seen c.requires.spanned c.requires.room start c.see_row.ensures.products_written
          c.track_row.new.row ks (omega arith) room c.in-Some.pivot c.deref.result.now a.pivots.now.items c.push.new.self.items (c.deref.ensures.0 ∙ c.requires.none_found) c.requires.none_found c.push.ensures.items c.in-Some.ensures.combination_or_new_row;
    }

pub returns-in_default : goal.returns-in_default
returns-in_default g c =
    let K = g.F.Field.field in let v = g.F.Field.value in
    let a = c.args in
    let T = viewed K v a.view.now in
    let start = subst (RowOf K v T.states T.start) (sym c.copy_from_slice.ensures.after) c.start.ensures.start_row in
    let wide = length-take-le 32 a.tracked.now (omega (arith, c.requires.room.1)) in
    let seen = c.see_row.auto.seen in
    let row = c.track_row.auto.row in
    record {
      begun = λ ks room.
          empty_skip K v a.view.now c.states.result c.states.ensures.told a.rows.now a.tracked.now c.copy_from_slice.new.self c.see_row.new.seen c.requires.spanned c.requires.room start c.see_row.ensures.products_written
          c.track_row.new.row ks (omega arith) room c.deref.result.now a.pivots.now.items (c.deref.ensures.0 ∙ c.requires.none_found) c.requires.none_found c.in_default.ensures.combination_or_new_row;
    }
