use Rattle.std.proofs.Common.{refl}
use Rattle.field.specs.Below.{same_below}
use Rattle.residue.proofs.ResidueField.add.Goals as goal

pub returns : goal.returns
returns g c = record { is_sum = same_below _ _ refl }
