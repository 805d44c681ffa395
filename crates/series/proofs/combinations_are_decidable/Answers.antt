use Rattle.series.proofs.Families.{combination?}
use Rattle.series.proofs.combinations_are_decidable.Goals as goal

pub returns : goal.returns
returns g c = record { decidable = combination? g.F.Field.field }
