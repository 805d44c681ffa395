use Rattle.series.proofs.KeptWords.{kept_exactly}
use Rattle.series.proofs.kept_words_decide.Goals as goal

pub returns : goal.returns
returns g c = record { exactly = kept_exactly g.F.Field.field }
