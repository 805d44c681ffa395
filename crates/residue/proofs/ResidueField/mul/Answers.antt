use Rattle.std.proofs.Common.{◌≡◌, ◌*◌, ◌%◌}
use Rattle.field.specs.Below.{same_below}
use Rattle.residue.proofs.ResidueField.mul.Goals as goal

pub returns : goal.returns
returns g c =
    let e : c.code.result * c.code-2.result % c.order.result ≡ c.args.self.n * c.args.other.n % g.row.P = cc in
    record { is_product = same_below _ _ e }
