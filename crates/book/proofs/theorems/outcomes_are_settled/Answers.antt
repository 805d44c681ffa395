use Rattle.book.proofs.Settled.{settled}
use Rattle.book.proofs.theorems.outcomes_are_settled.Goals as goal

pub returns : goal.returns
returns g c = record { settled = settled g.F.Field.field g.F.Field.value c.one_text_one_table.ensures.told_apart c.one_verdict.ensures.decided }
