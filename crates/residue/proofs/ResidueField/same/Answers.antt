use Rattle.field.proofs.Below.{same_decided}
use Rattle.residue.proofs.ResidueField.same.Goals as goal

pub returns : goal.returns
returns g c = record { decides_equality = rw c.eq.ensures (same_decided _ _) }
