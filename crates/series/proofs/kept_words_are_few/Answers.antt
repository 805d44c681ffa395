use Rattle.series.proofs.KeptWords.{kept_number}
use Rattle.series.proofs.kept_words_are_few.Goals as goal

pub returns : goal.returns
returns g c = record { number = kept_number g.F.Field.field }
