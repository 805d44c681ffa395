use Rattle.loose.proofs.Late.{no_inverse, same_inverse}
use Rattle.loose.proofs.LooseField.inverse.Goals as goal

pub returns-in_err-found : goal.returns-in_err-found
returns-in_err-found g c =
    record { is_inverse_unless_zero = rw c.from_residual-in_err-found.ensures (no_inverse _ c.args.self.n _ c.code.result c.code.ensures.is_code c.in_ok-reduced.ensures.is_decoded_below_order.1 c.in_err-found.ensures.is_inverse_unless_zero) }

pub returns : goal.returns
returns g c = record { is_inverse_unless_zero = same_inverse _ c.args.self.n _ c.code.result c.code.ensures.is_code c.in_ok-reduced.ensures.is_decoded_below_order.1 _ c.from.result.n c.from.ensures c.in_ok-found.ensures.is_inverse_unless_zero }
