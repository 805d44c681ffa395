use Rattle.text.proofs.Told.{length_is}
use Rattle.text.proofs.theorems.text_lengths.Goals as goal

pub returns : goal.returns
returns g c = record { length_is = length_is g.F.Field.field }
