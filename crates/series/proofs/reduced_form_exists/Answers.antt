use Rattle.series.proofs.ReducedExistence.{reduced_exists}
use Rattle.series.proofs.reduced_form_exists.Goals as goal

pub returns : goal.returns
returns g c = record { exists = λ T. reduced_exists g.F.Field.field T T.letters }
