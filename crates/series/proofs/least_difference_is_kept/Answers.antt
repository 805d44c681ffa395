use Rattle.series.proofs.KeptWords.{least_difference, difference_kept, difference_short}
use Rattle.series.proofs.least_difference_is_kept.Goals as goal

pub returns : goal.returns
returns g c = record {
  exists = least_difference g.F.Field.field;
  kept_and_short = λ S T v d. (difference_kept g.F.Field.field S T v d, difference_short g.F.Field.field S T v d);
}
