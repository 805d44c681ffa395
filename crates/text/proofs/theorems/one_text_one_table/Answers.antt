use Rattle.text.proofs.Told.{told_apart}
use Rattle.text.proofs.theorems.one_text_one_table.Goals as goal

pub returns : goal.returns
returns g c = record { told_apart = told_apart g.F.Field.field }
