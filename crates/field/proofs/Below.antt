-- Equality of numbers below a bound, as code tests it. Assumes nothing.
use Rattle.std.specs.Prelude.{◌≡◌, ℕ, Decides, nat_eq}
use Rattle.std.proofs.Common.{ap}
use Rattle.std.proofs.lemmas.Bool.{eqb-true, eq-eqb}
use Rattle.field.specs.Below.{Below, same_below}

pub same_decided : {p : ℕ} (x y : Below p) → Decides (nat_eq x.n y.n) (x ≡ y)
same_decided x y = (λ t. same_below x y (eqb-true x.n y.n t), λ e. eq-eqb x.n y.n (ap (λ z. z.n) e))
