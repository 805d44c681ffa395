use Rattle.series.proofs.KeptWords.{kept_short}
use Rattle.series.proofs.kept_words_are_short.Goals as goal

pub returns : goal.returns
returns g c = record { fewer_letters = kept_short g.F.Field.field }
