use Rattle.series.proofs.ReducedForms.{reduced_exactly}
use Rattle.series.proofs.reduced_form_is_canonical.Goals as goal

pub returns : goal.returns
returns g c = record { exactly = reduced_exactly g.F.Field.field }
