use Rattle.shelf.proofs.Cleared.{clear_does}
use Rattle.shelf.proofs.theorems.clear_does_the_call.Goals as goal

pub returns : goal.returns
returns g c = record { clears_as_called = λ es left mem p r h rest. clear_does g.F.Field.field g.F.Field.value es left mem rest.work rest.output rest.verdict p r h }
