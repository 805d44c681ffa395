use Rattle.std.proofs.Common.{◌%◌, ap, ◌∙◌}
use native.Mathlib.Nat.{mod-mod}
use Rattle.field.specs.Below.{same_below}
use Rattle.loose.proofs.LooseField.from_code.Goals as goal

pub returns : goal.returns
returns g c =
    let d = c.in_ok-reduced.ensures.is_decoded_below_order in
    record { is_decoded_below_order = (d.0, same_below _ _ (ap (λ k. k % g.row.P) (c.from.ensures ∙ ap (λ x. x.n) d.1) ∙ mod-mod c.args.n g.row.P)) }
