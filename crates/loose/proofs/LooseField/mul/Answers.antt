use Rattle.std.proofs.Common.{◌*◌, ◌%◌, ap, ◌∙◌}
use native.Mathlib.Nat.{mod-mod}
use Rattle.std.proofs.lemmas.Nat.{mul-mod}
use Rattle.field.specs.Below.{same_below}
use Rattle.loose.proofs.LooseField.mul.Goals as goal

pub returns : goal.returns
returns g c =
    let a = c.args.self.n in
    let b = c.args.other.n in
    record { is_product = same_below _ _ (ap (λ m. a * b % m % g.row.P) c.order.ensures.is_order ∙ mod-mod _ g.row.P ∙ mul-mod a b g.row.P) }
