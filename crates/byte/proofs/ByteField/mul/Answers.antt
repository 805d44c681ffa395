use Rattle.std.proofs.Common.{◌∙◌}
use Rattle.field.specs.Below.{same_below}
use Rattle.byte.proofs.ByteField.mul.Goals as goal

pub returns : goal.returns
returns c = record { is_product = same_below _ _ (c.from.ensures ∙ c.product.ensures.is_product) }
