use Rattle.std.proofs.Common.{◌≡◌, ◌<◌, sym, ◌∙◌, mod-eq_of_lt, arith}
use Rattle.std.proofs.lemmas.Grind.{common_steps}
use Rattle.field.specs.Below.{same_below}
use Rattle.byte.proofs.ByteField.from_code.Goals as goal

pub returns : goal.returns
returns c =
    let ok : (c.args.n < 256) × (c.in_ok-n.n ≡ c.args.n) = grind (arith, common_steps) in
    record { is_decoded_below_order = (ok.0, same_below _ _ (c.from.ensures ∙ ok.1 ∙ sym (mod-eq_of_lt ok.0))) }
