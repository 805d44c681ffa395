use Rattle.std.proofs.Common.{◌∙◌, ap, refl, subst, arith, rules, take, take_all}
use Rattle.std.proofs.lemmas.Option.{MatchOption-at_none, MatchOption-at_some}
use Rattle.series.specs.Words.{Over}
use Rattle.field.specs.Sums.{move}
use Rattle.series.specs.Tables.{row}
use Rattle.rows.specs.Seen.{table_of}
use Rattle.rows.proofs.Parts.{row_product}
use Rattle.rows.proofs.Slices.{dot_seen}
use Rattle.rows.proofs.Words.{over_more, first_outside, row_more}
use Rattle.rows.proofs.weight.weigh.Goals as goal

pub returns-in_err-letter-clause-weight_or_first_letter_outside : goal.returns-in_err-letter-clause-weight_or_first_letter_outside
returns-in_err-letter-clause-weight_or_first_letter_outside g c =
    let outside = first_outside c.args.table.shape.letters c.args.word.now c.loop-i.i (omega arith) c.loop-i.invariant.0 (MatchOption-at_none _ _ c.in_err-letter.ensures.ok_part c.letter.ensures.one_of_the_letters) in
    search rules

pub loop-i-preserved : goal.loop-i-preserved
loop-i-preserved g c =
    let K = g.F.Field.field in let v = g.F.Field.value in
    let t = c.args.table in
    let w = c.args.word.now in
    let i = c.loop-i.i in
    let letter = MatchOption-at_some _ _ c.in_ok-letter.letter c.in_ok-letter.ensures.ok_part c.letter.ensures.one_of_the_letters in
    let p = row_product K v {n = t.shape.states} c.matrix.ensures.matrix_of_letter (record { len = c.loop-i.invariant.1; same = c.loop-i.invariant.3 }) c.row_times_matrix.ensures.product_written in (
      over_more t.shape.letters w i (omega arith) c.loop-i.invariant.0 (omega (arith, letter)) (omega (arith, letter)),
      rw c.copy_from_slice-in-loop-i.ensures.after p.len,
      p.len,
      rw c.copy_from_slice-in-loop-i.ensures.after (λ j l. p.same j l ∙ ap (λ a. move K t.shape.states ((table_of K v t).step a) (row K (table_of K v t) (take i w)) j) letter.0 ∙ row_more K (table_of K v t) w i (omega arith) (λ j l. refl) j l),
    )

pub returns-clause-weight_or_first_letter_outside : goal.returns-clause-weight_or_first_letter_outside
returns-clause-weight_or_first_letter_outside g c =
    let K = g.F.Field.field in let v = g.F.Field.value in
    let t = c.args.table in
    let w = c.args.word.now in
    let all = take_all c.loop-i.i w (omega arith) in (
      subst (Over t.shape.letters) all c.loop-i.invariant.0,
      c.dot.ensures.is_dot_product
          ∙ dot_seen K v t.shape.states (record { len = c.loop-i.invariant.1; same = λ j l. c.loop-i.invariant.3 j l ∙ ap (λ u. row K (table_of K v t) u j) all }) c.end.ensures.end_column,
    )
