use Rattle.std.proofs.Common.{rules}
use Rattle.scripting.proofs.Onward.{stands_for}
use Rattle.scripting.proofs.reading.entry_of.Goals as goal

pub returns-in_ok-insert-in-Some-Text-clause-comes : goal.returns-in_ok-insert-in-Some-Text-clause-comes
returns-in_ok-insert-in-Some-Text-clause-comes c =
    let given = stands_for c.args.texts.now c.insert.new.self c.in-Some-Text.name c.in_ok-block-in-Some-Text.field-0 c.in_ok-insert-in-Some-Text.ensures.updates in
    search (rules, given)
