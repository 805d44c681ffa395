use Rattle.book.proofs.RoundTrips.{round_trips}
use Rattle.book.proofs.theorems.load_and_write_undo_each_other.Goals as goal

pub returns : goal.returns
returns g c = record { round_trips = round_trips g.F.Field.field g.F.Field.value c.text_lengths.ensures.length_is c.one_text_one_table.ensures.told_apart c.one_verdict.ensures.decided }
