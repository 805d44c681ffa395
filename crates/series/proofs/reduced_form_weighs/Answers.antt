use Rattle.series.proofs.ReducedForms.{reduced_weight}
use Rattle.series.proofs.reduced_form_weighs.Goals as goal

pub returns : goal.returns
returns g c = record { weight = reduced_weight g.F.Field.field }
