use Rattle.std.proofs.Common.{◌≢◌, slice_index, rules}
use Rattle.scripting.specs.Refusing.{unknown, arguments}
use Rattle.scripting.proofs.order.read_line.Goals as goal
use Rattle.scripting.proofs.order.read_line.Goals.{then-first-lt1, else-first-lt1+in_default-1}

pub returns-in_err-verb : goal.returns-in_err-verb
returns-in_err-verb c =
    let other : slice_index c.in-Some.first.now 0 ≢ 35 = elim c.if-first-lt1.branch [ then-first-lt1 w ↦ search rules | else-first-lt1+in_default-1 w ↦ search rules ] in
    let no = unknown _ _ c.in-Some.ensures.word other c.in_err-verb.ensures.1 in
    search (rules, no)

pub returns-in_err-arguments : goal.returns-in_err-arguments
returns-in_err-arguments c =
    let other : slice_index c.in-Some.first.now 0 ≢ 35 = elim c.if-first-lt1.branch [ then-first-lt1 w ↦ search rules | else-first-lt1+in_default-1 w ↦ search rules ] in
    let no = arguments c.in_ok-verb.verb _ _ c.in-Some.ensures.word other c.in_ok-verb.ensures c.in_err-arguments.ensures.said in
    search (rules, no)
