use Rattle.std.proofs.Common.{◌<◌, ◌≤◌, inr, ⊎_elim, get_or, rules}
use Rattle.std.proofs.lemmas.Bool.{cases_lt}
use Rattle.scripting.specs.Refusing.{WrongArguments}
use Rattle.scripting.specs.declared.mistake.Reason.TheVariants.{NumberTooLarge}
use Rattle.scripting.specs.declared.verb.Verb.TheVariants.{After}
use Rattle.scripting.proofs.order.after.Goals as goal

pub returns-in_err-letter : goal.returns-in_err-letter
returns-in_err-letter c =
    let ns = c.in_ok-place.field-0 in
    let over : 256 ≤ get_or ns 1 0 = ⊎_elim (λ (below : get_or ns 1 0 < 256). absurd (c.in_err-letter.ensures below)) (λ (over : 256 ≤ get_or ns 1 0). over) (cases_lt (get_or ns 1 0) 256) in
    let no : WrongArguments After c.args.line.now NumberTooLarge = inr (ns, c.in_ok-place.ensures.read, over) in
    search (rules, no)
