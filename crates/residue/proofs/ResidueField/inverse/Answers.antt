use Rattle.std.proofs.Common.{◌≡◌, ◌∙◌, arith, rules}
use Rattle.residue.specs.Prime.{Prime}
use Rattle.field.specs.Below.{same_below}
use Rattle.residue.specs.Proofs.Inverses.{onward}
use Rattle.residue.proofs.Inverse.{inverse_found}
use Rattle.residue.proofs.ResidueField.inverse.Goals as goal

pub returns-then-self-eq0 : goal.returns-then-self-eq0
returns-then-self-eq0 g c = record { is_inverse_unless_zero = same_below _ _ c.if-self-eq0.true }

pub loop-r-preserved : goal.loop-r-preserved
loop-r-preserved g c =
    let pr : Prime g.row.P = search rules in
    onward g.row.P pr c.args.self.n c.loop-r.a c.loop-r.r c.loop-r.invariant c.loop-r-test.true

pub returns : goal.returns
returns g c =
    let one : c.loop-r.r ≡ 1 = omega arith in
    record { is_inverse_unless_zero = inverse_found _ (record { n = c.args.self.n; below = c.args.self.below }) _ (c.loop-r.invariant.3 ∙ one) }
