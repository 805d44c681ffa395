use Rattle.std.proofs.Common.{◌≡◌, ◌+◌, ◌%◌, ap, ◌∙◌}
use native.Mathlib.Nat.{mod-mod, add-mod}
use Rattle.field.specs.Below.{same_below}
use Rattle.loose.proofs.LooseField.add.Goals as goal
use Rattle.loose.proofs.LooseField.add.Goals.{then-sum-lt4294967296, else-sum-lt4294967296}

pub returns : goal.returns
returns g c =
    let total = c.args.self.n + c.args.other.n in
    let late : c.if-sum-lt4294967296.result.0 % g.row.P ≡ total % g.row.P = elim c.if-sum-lt4294967296.branch [ then-sum-lt4294967296 w ↦ ap (λ z. z.0 % g.row.P) w.result-is | else-sum-lt4294967296 w ↦ ap (λ z. z.0 % g.row.P) w.result-is ∙ ap (λ m. total % m % g.row.P) w.order.ensures.is_order ∙ mod-mod total g.row.P ] in
    record { is_sum = same_below _ _ (late ∙ add-mod c.args.self.n c.args.other.n g.row.P) }
