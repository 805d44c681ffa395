use Rattle.std.proofs.Common.{◌≡◌, ◌+◌, ◌-◌, ◌<◌, ◌==◌, [], ◌++◌, length, take, count_by, cond, refl, sym, ap, ◌∙◌, subst, append_assoc, arith, rules}
use Rattle.std.proofs.lemmas.List.Sums.{sum_by-append}
use Rattle.scripting.specs.Reading.{Reached, FirstLine, texts_in, begun}
use Rattle.scripting.proofs.Onward.{passed, numbered, onward}
use Rattle.scripting.proofs.reading.read.Goals as goal

pub loop-rest-init : goal.loop-rest-init
loop-rest-init c =
    let script = c.args.script.now in
    let texts = texts_in c.new-texts.result in
    record {
      front = [];
      whole = refl;
      counted = refl;
      reached = subst (λ ls. Reached script texts script ls) (sym c.new-lines.ensures.items) (begun (λ name. rw c.new-texts.ensures.empty refl));
    }

pub loop-rest-preserved : goal.loop-rest-preserved
loop-rest-preserved c =
    let script = c.args.script.now in
    let rest = c.loop-rest.rest.now in
    let next = c.behind-next.result.now in
    let i = c.loop-rest.invariant in
    let more : 0 < length rest = search rules in
    let first : FirstLine rest c.split_line.result.0.now c.split_line.result.1.now = c.split_line.ensures.first_line more in
    let front = take (length rest - length next) rest in
    let split = passed c.read_line-said.result rest _ _ next first c.behind-next.ensures.goes_on in
    let number : c.newlines-number.result ≡ count_by (λ b. b == 10) front = c.newlines-number.ensures.counted ∙ ap (count_by (λ b. b == 10)) c.split_at.ensures.front in
    let sums : count_by (λ b. b == 10) (i.front ++ front) ≡ count_by (λ b. b == 10) i.front + count_by (λ b. b == 10) front = sum_by-append (λ b. cond (b == 10) 1 0) i.front front in
    record {
      front = i.front ++ front;
      whole = append_assoc i.front front next ∙ ap (λ bs. i.front ++ bs) split ∙ i.whole;
      counted = omega (arith, i.counted, number, sums);
      reached = subst (λ ls. Reached script (texts_in c.entry_of-entry.new.texts) next ls) (sym c.in_ok-enter.ensures.entered) (onward c.loop-rest.number c.split_line.result.0.now c.read_line-said.result c.entry_of-entry.result (i.counted ∙ numbered script i.front rest i.whole) i.reached first c.read_line-said.ensures.read c.behind-next.ensures.goes_on c.entry_of-entry.ensures.comes c.entry_of-entry.ensures.kept);
    }
