use Rattle.text.proofs.Decides.{decided}
use Rattle.text.proofs.theorems.one_verdict.Goals as goal

pub returns : goal.returns
returns g c = record { decided = decided g.F.Field.field }
