use Rattle.std.proofs.Common.{refl}
use Rattle.field.specs.Below.{same_below}
use Rattle.residue.proofs.ResidueField.neg.Goals as goal

pub returns : goal.returns
returns g c = record { is_opposite = same_below _ _ refl }
