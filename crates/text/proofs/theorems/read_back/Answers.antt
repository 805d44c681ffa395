use Rattle.text.proofs.Decides.{read_back}
use Rattle.text.proofs.theorems.read_back.Goals as goal

pub returns : goal.returns
returns g c = record { read_back = read_back g.F.Field.field g.F.Field.value }
