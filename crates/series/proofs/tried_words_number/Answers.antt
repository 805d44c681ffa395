use Rattle.series.proofs.KeptWords.{tried_number}
use Rattle.series.proofs.tried_words_number.Goals as goal

pub returns : goal.returns
returns g c = record { number = tried_number g.F.Field.field }
