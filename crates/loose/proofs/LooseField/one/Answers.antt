use Rattle.std.proofs.Common.{◌<◌, mod-eq_of_lt, rules}
use Rattle.field.specs.Below.{same_below}
use Rattle.loose.proofs.LooseField.one.Goals as goal

pub returns : goal.returns
returns g c = record { is_one = let low : 1 < g.row.P = search rules in same_below _ _ (mod-eq_of_lt low) }
