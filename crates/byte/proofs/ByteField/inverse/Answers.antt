use Rattle.std.proofs.Common.{◌-◌, ◌<◌, sym, ap, ◌∙◌, subst, le_of_lt}
use Rattle.field.specs.Below.{same_below}
use Rattle.byte.proofs.Looked.{log, exp, low_unless_zero, inverse_looked}
use Rattle.byte.proofs.ByteField.inverse.Goals as goal

pub returns-then-self-eq0 : goal.returns-then-self-eq0
returns-then-self-eq0 c = record { is_inverse_unless_zero = same_below _ _ c.if-self-eq0.true }

pub overflow_sub-rest : goal.overflow_sub-rest
overflow_sub-rest c = le_of_lt (subst (λ n. log n < 255) (sym c.from.ensures) (low_unless_zero c.args.self.n c.if-self-eq0.false c.args.self.below))

pub returns : goal.returns
returns c =
    let e = c.from-3.ensures ∙ ap exp (c.from-2.ensures ∙ ap (λ n. 255 - log n) c.from.ensures) in
    record { is_inverse_unless_zero = inverse_looked (record { n = c.args.self.n; below = c.args.self.below }) _ c.if-self-eq0.false e }
