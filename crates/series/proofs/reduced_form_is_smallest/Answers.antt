use Rattle.series.proofs.ReducedForms.{reduced_least}
use Rattle.series.proofs.reduced_form_is_smallest.Goals as goal

pub returns : goal.returns
returns g c = record { no_fewer_states = reduced_least g.F.Field.field }
