use Rattle.std.proofs.Common.{◌≡◌, [], ◌∷◌, ◌++◌, vec_items, sym, ap, ◌∙◌, subst, append_assoc, append-nil, rules}
use Rattle.scripting.specs.Numerals.{Numbers, none, next}
use Rattle.scripting.specs.Refusing.{wrong_letter, later_letter, no_memory}
use Rattle.scripting.proofs.words.letters.Goals as goal

pub loop-first-preserved : goal.loop-first-preserved
loop-first-preserved c =
    let line = c.args.line.now in
    let all = vec_items c.loop-first.all in
    let n = c.in_ok-letter.field-0 in
    let i = c.loop-first.invariant in
    record {
      whole = λ ns h.
          let whole : Numbers line (all ++ n ∷ ns) = i.whole (n ∷ ns) (next _ _ c.in-Some.ensures.word c.in_ok-letter.ensures.written h) in
          let e : vec_items c.push.new.self ++ ns ≡ all ++ n ∷ ns = ap (λ xs. xs ++ ns) c.in_ok-push.ensures.items ∙ append_assoc all (n ∷ []) ns in
          subst (λ xs. Numbers line xs) (sym e) whole;
      wrong = λ r no. i.wrong r (later_letter _ n c.in-Some.ensures.word c.in_ok-letter.ensures.written no);
    }

pub returns : goal.returns
returns c = record { read = subst (λ xs. Numbers c.args.line.now xs) (append-nil (vec_items c.loop-first.all)) (c.loop-first.invariant.whole [] (none c.in_default.ensures.word)) }

pub returns-in_err-letter : goal.returns-in_err-letter
returns-in_err-letter c =
    let no = c.loop-first.invariant.wrong _ (wrong_letter _ _ c.in-Some.ensures.word c.in_err-letter.ensures.written) in
    search (rules, no)

pub returns-in_err-push : goal.returns-in_err-push
returns-in_err-push c =
    let no = c.loop-first.invariant.wrong _ no_memory in
    search (rules, no)
