use Rattle.field.specs.Below.{same_below}
use Rattle.byte.proofs.ByteField.add.Goals as goal

pub returns : goal.returns
returns c = record { is_sum = same_below _ _ c.from.ensures }
