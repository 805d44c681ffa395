-- The numbers below a bound: the values of the fields whose elements are numbers. Assumes nothing.
use Rattle.std.specs.Prelude.{◌≡◌, ℕ, ◌<◌}
use mathlib.Core.HLevel.{is_prop→PathP}
use Rattle.std.proofs.Math.Bridge.{le_prop}

-- a number below p
pub record Below (p : ℕ) : Type 0 where
  pub n : ℕ
  pub below : n < p

-- two are equal where their numbers are
pub same_below : {p : ℕ} (x y : Below p) → x.n ≡ y.n → x ≡ y
same_below {p} x y e = λ i. record {
  n = e i;
  below = is_prop→PathP (λ j. e j < p) (λ j. le_prop) x.below y.below i;
}
