-- That a number is prime, by a test of the divisors up to its root. Assumes nothing.
use Rattle.std.specs.Prelude.{◌≡◌, ℕ, ◌+◌, ◌-◌, ◌*◌, ◌/◌, ◌%◌, ◌<◌, ◌≤◌, Bool, true, T, ◌≢◌, nat_le, nat_lt}
use Rattle.std.proofs.Common.{ap, ◌∙◌, subst, ⊎_elim, mul_comm, mul-zero, mul-one, mul-le-mul, arith, lit<, lit≤}
use Rattle.std.proofs.Math.Nat.{mul-mod_right, div-add-mod}
use Rattle.std.proofs.lemmas.Bool.{cases_lt, ltb-true}
use Rattle.field.proofs.Tests.{all, all_at}
use Rattle.residue.specs.Prime.{Prime}

-- none of the numbers from 2 to b - 1 divides p
abbrev none_of : ℕ → ℕ → Bool
none_of p b = all (b - 2) (λ i. nat_lt 0 (p % (2 + i)))

none_at : (p b d : ℕ) → T (none_of p b) → 2 ≤ d → d < b → p % d ≢ 0
none_at p b d t low high =
    let test : ℕ → Bool = λ i. nat_lt 0 (p % (2 + i)) in
    let here : 2 + (d - 2) ≡ d = omega arith in
    let passes : test (d - 2) ≡ true = all_at (b - 2) test t (d - 2) (omega arith) in
    let some : 0 < p % (2 + (d - 2)) = ltb-true 0 (p % (2 + (d - 2))) passes in
    subst (λ n. p % n ≢ 0) here (omega arith)

-- a divisor of p at or above b, where b * b is above p, comes with one below b
whole_by : (p b : ℕ) → p < b * b → 2 ≤ b → T (none_of p b) → (d : ℕ) → 2 ≤ d → d < p → p % d ≢ 0
whole_by p b root two t d h l z =
    ⊎_elim
    (λ less. none_at p b d t h less z)
    (λ more.
    let f : ℕ = p / d in
    let parts : d * f ≡ p = omega (arith, div-add-mod p d) in
    let not_none : f ≡ 0 → ⊥ = λ e.
    let q : d * 0 ≡ p = subst (λ n. d * n ≡ p) e parts in omega (arith, mul-zero d) in
    let not_one : f ≡ 1 → ⊥ = λ e.
    let q : d * 1 ≡ p = subst (λ n. d * n ≡ p) e parts in omega (arith, mul-one d) in
    let below : f < b =
    ⊎_elim
    (λ y. y)
    (λ y. let big : b * b ≤ d * f = mul-le-mul more y in absurd (omega arith))
    (cases_lt f b) in
    let zero_f : p % f ≡ 0 =
    subst (λ n. n % f ≡ 0) parts (ap (λ n. n % f) (mul_comm d f) ∙ mul-mod_right f d) in
    none_at p b f t (omega arith) below zero_f)
    (cases_lt d b)

-- p is prime where no number from 2 to b - 1 divides it, and b * b is above p; at numerals each
-- test is `tt`
pub prime_by : (p b : ℕ) → T (nat_le 2 p) → T (nat_le p 65537)
    → T (nat_lt p (b * b)) → T (nat_le 2 b) → T (none_of p b) → Prime p
prime_by p b low high root two t = record {
  low = lit≤ low;
  high = lit≤ high;
  whole = whole_by p b (lit< root) (lit≤ two) t;
}
