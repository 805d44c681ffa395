use Rattle.byte.proofs.Remainders.{product_remainder, remainder_unique}
use Rattle.byte.proofs.products_are_remainders.Goals as goal

pub returns : goal.returns
returns c = record { product_is_remainder = product_remainder; remainder_is_unique = remainder_unique }
