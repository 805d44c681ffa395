use Rattle.field.proofs.Below.{same_decided}
use Rattle.byte.proofs.ByteField.same.Goals as goal

pub returns : goal.returns
returns c = record { decides_equality = rw c.eq.ensures (same_decided _ _) }
