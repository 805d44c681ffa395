use Rattle.std.proofs.Common.{◌*◌, ◌∷◌, ◌++◌, [], length, ap, ◌∙◌, arith}
use Rattle.columns.proofs.Lengths.{length_numbers}
use Rattle.columns.proofs.Filled.{line_put}
use Rattle.columns.proofs.line.put_line.Goals as goal

pub returns : goal.returns
returns g c = record {
  written = λ vs gives.
      let h = c.requires.fill in
      let long = ap length (c.put_numbers.ensures.written h.0 h.1) ∙ length_numbers h.0 h.2 in
      line_put c.args.out.now c.put_numbers.new.out c.args.first (11 * length h.0) _ _ h.3 long (omega (arith, h.3)) (omega (arith, h.3))
      ∙ ap (λ l. c.args.first ∷ (l ++ 10 ∷ [])) (c.put_numbers.ensures.written vs gives);
}
