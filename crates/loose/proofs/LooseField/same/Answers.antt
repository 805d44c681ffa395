use Rattle.field.proofs.Below.{same_decided}
use Rattle.loose.proofs.LooseField.same.Goals as goal

pub returns : goal.returns
returns g c = record { decides_equality = rw (c.code.ensures.is_code, c.code-2.ensures.is_code) (same_decided _ _) }
