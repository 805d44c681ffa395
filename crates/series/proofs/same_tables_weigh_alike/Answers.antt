use Rattle.series.proofs.Weights.{same_weight}
use Rattle.series.proofs.same_tables_weigh_alike.Goals as goal

pub returns : goal.returns
returns g c = record { alike = same_weight g.F.Field.field }
