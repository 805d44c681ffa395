use Rattle.std.proofs.Common.{◌≡◌, ◌+◌, ◌-◌, ◌*◌, [], ◌∷◌, ◌++◌, length, sym, refl, ap, ◌∙◌, arith, rules}
use borrow.Author.Tests.{tests}
use Rattle.std.proofs.lemmas.List.{length-map}
use Rattle.std.proofs.lemmas.Grind.{flat_map-append}
use Rattle.std.proofs.lemmas.Iterator.{YieldsList-from_slice, YieldsList-from_map}
use Rattle.std.proofs.lemmas.Iterator.Consumers.{YieldsList-from_copied, YieldsList-at}
use Rattle.columns.specs.Numbers.{number}
use Rattle.text.specs.Rows.{codes_of}
use Rattle.text.proofs.Codes.{codes_small}
use Rattle.writer.proofs.Puts.{fill_numbers, filled_numbers, room_in_front, room_behind, line_put_parts}
use Rattle.writer.proofs.put_codes_line.Goals as goal

pub put_numbers-requires-clause-fill : goal.put_numbers-requires-clause-fill
put_numbers-requires-clause-fill g c =
    fill_numbers _ (YieldsList-from_copied (YieldsList-at c.copied.ensures.source (YieldsList-from_slice c.args.heads.now (cc)))) c.requires.ten_digits
    (room_in_front c.args.out.now c.from.result (11 * length c.args.heads.now) (11 * length c.args.elements.now) _ (omega (arith, c.requires.room)) refl)

pub put_numbers-requires-2-clause-fill : goal.put_numbers-requires-2-clause-fill
put_numbers-requires-2-clause-fill g c =
    let K = g.F.Field.field in
    let value = g.F.Field.value in
    let m = 11 * length c.args.heads.now in
    let n = 11 * length c.args.elements.now in
    let room : length c.args.out.now ≡ 2 + m + n = omega (arith, c.requires.room) in
    let long = c.put_numbers.auto.out ∙ room_in_front c.args.out.now c.from.result m n (1 + m) room refl in
    fill_numbers _ (YieldsList-from_map _ (λ x. K.code (value x)) (YieldsList-at c.map.ensures.source (YieldsList-from_slice c.args.elements.now (cc))) c.map.ensures.closure (λ x r q k. search (rules, tests)))
    (codes_small K value c.args.elements.now)
    (room_behind c.args.out.now c.put_numbers.new.out c.from.result m n (1 + m) (length c.args.out.now - 1) (1 + m - 1) room long refl (omega (arith, room)) (omega arith)
    ∙ ap (λ k. 11 * k) (sym (length-map c.args.elements.now (λ x. K.code (value x)))))

pub returns : goal.returns
returns g c =
    let K = g.F.Field.field in
    let value = g.F.Field.value in
    let m = 11 * length c.args.heads.now in
    let n = 11 * length c.args.elements.now in
    let room : length c.args.out.now ≡ 2 + m + n = omega (arith, c.requires.room) in
    let long = c.put_numbers.auto.out ∙ room_in_front c.args.out.now c.from.result m n (1 + m) room refl in
    let long-2 = c.put_numbers-2.auto.out ∙ room_behind c.args.out.now c.put_numbers.new.out c.from.result m n (1 + m) (length c.args.out.now - 1) (1 + m - 1) room long refl (omega (arith, room)) (omega arith) in
    let heads = filled_numbers c.put_numbers.ensures.written (YieldsList-from_copied (YieldsList-at c.copied.ensures.source (YieldsList-from_slice c.args.heads.now (cc)))) in
    let codes = filled_numbers c.put_numbers-2.ensures.written (YieldsList-from_map _ (λ x. K.code (value x)) (YieldsList-at c.map.ensures.source (YieldsList-from_slice c.args.elements.now (cc))) c.map.ensures.closure (λ x r q k. search (rules, tests))) in
    record {
      written =
          line_put_parts c.args.out.now c.put_numbers.new.out c.put_numbers-2.new.out c.from.result m n (1 + m) (length c.args.out.now - 1) (1 + m - 1) (length c.args.out.now - 1 - (1 + m)) room long long-2 refl (omega (arith, room)) (omega arith) (omega (arith, room))
          ∙ (λ i. c.from.ensures i ∷ ((heads i ++ codes i) ++ 10 ∷ []))
          ∙ ap (λ l. c.from.ensures 1 ∷ (l ++ 10 ∷ [])) (sym (flat_map-append number c.args.heads.now (codes_of K value c.args.elements.now)));
    }
