use Rattle.series.proofs.KeptWords.{kept_prefix}
use Rattle.series.proofs.prefixes_are_kept.Goals as goal

pub returns : goal.returns
returns g c = record { kept = kept_prefix g.F.Field.field }
