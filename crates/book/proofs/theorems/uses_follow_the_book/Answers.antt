use Rattle.book.proofs.Lawful.{lawful}
use Rattle.book.proofs.theorems.uses_follow_the_book.Goals as goal

pub returns : goal.returns
returns g c = record { law = lawful g.F.Field.field g.F.Field.value c.one_text_one_table.ensures.told_apart c.outcomes_are_settled.ensures.settled c.load_and_write_undo_each_other.ensures.round_trips }
