use Rattle.std.proofs.Common.{refl}
use Rattle.field.specs.Below.{same_below}
use Rattle.byte.proofs.ByteField.one.Goals as goal

pub returns : goal.returns
returns c = record { is_one = same_below _ _ refl }
