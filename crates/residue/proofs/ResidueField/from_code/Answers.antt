use Rattle.std.proofs.Common.{◌≡◌, ◌<◌, sym, subst, ◌∙◌, mod-eq_of_lt, arith}
use Rattle.std.proofs.lemmas.Grind.{common_steps}
use Rattle.field.specs.Below.{same_below}
use Rattle.residue.proofs.ResidueField.from_code.Goals as goal

pub returns-then-n : goal.returns-then-n
returns-then-n g c =
    let kept : c.in_ok-n.n ≡ c.args.n = grind (arith, common_steps) in
    let low : c.args.n < g.row.P = subst (λ m. m < g.row.P) kept c.if-n.true in
    record { is_decoded_below_order = (low, same_below _ _ (kept ∙ sym (mod-eq_of_lt low))) }
