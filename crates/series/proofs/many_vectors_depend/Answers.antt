use Rattle.series.proofs.Families.{more_dependent}
use Rattle.series.proofs.many_vectors_depend.Goals as goal

pub returns : goal.returns
returns g c = record { more_than_dimensions = more_dependent g.F.Field.field }
