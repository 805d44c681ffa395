use Rattle.std.proofs.Common.{refl}
use Rattle.field.specs.Below.{same_below}
use Rattle.byte.proofs.ByteField.zero.Goals as goal

pub returns : goal.returns
returns c = record { is_zero = same_below _ _ refl }
