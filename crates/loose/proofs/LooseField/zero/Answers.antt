use native.Mathlib.Nat.{zero-mod}
use Rattle.field.specs.Below.{same_below}
use Rattle.loose.proofs.LooseField.zero.Goals as goal

pub returns : goal.returns
returns g c = record { is_zero = same_below _ _ (zero-mod g.row.P) }
