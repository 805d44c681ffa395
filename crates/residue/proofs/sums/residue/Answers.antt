use Rattle.std.proofs.Common.{◌≡◌, ◌%◌}
use Rattle.field.specs.Below.{same_below}
use Rattle.residue.proofs.sums.residue.Goals as goal

pub returns : goal.returns
returns g c =
    let e : c.args.n % c.order.result ≡ c.args.n % g.row.P = cc in
    record { is_residue = same_below _ _ e }
