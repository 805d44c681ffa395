use Rattle.series.proofs.KeptWords.{kept_span}
use Rattle.series.proofs.kept_words_span.Goals as goal

pub returns : goal.returns
returns g c = record { combination = kept_span g.F.Field.field }
