-- That every number from 1 to p - 1 has an inverse modulo a prime p. Assumes nothing.
use Rattle.std.specs.Prelude.{◌≡◌, ℕ, zero, suc, ◌+◌, ◌-◌, ◌*◌, ◌/◌, ◌%◌, ◌<◌, ◌≤◌}
use Rattle.std.proofs.Common.{sym, ap, ◌∙◌, ⊎_elim, mul_comm, mul_assoc, mul-add, mul_left_comm, mod-lt, mod-eq_of_lt, one-mul, arith}
use Rattle.std.proofs.Math.Nat.{add-mul-mod_self_left, div-add-mod}
use Rattle.std.proofs.lemmas.Bool.{cases_eq}
use Rattle.std.proofs.lemmas.Nat.{mul-mod_first}
use Rattle.residue.specs.Prime.{Prime}

-- equal but for multiples of p
mod_same : (p a b m n : ℕ) → a + p * m ≡ b + p * n → a % p ≡ b % p
mod_same p a b m n e =
    sym (add-mul-mod_self_left a p m) ∙ ap (λ x. x % p) e ∙ add-mul-mod_self_left b p n

-- one step towards the inverse of x: a holds with r, and then the next with p % r
inverse_step : (p x a r : ℕ) → a ≤ p → 0 < p → (a * x) % p ≡ r
    → (p / r * (p - a) % p * x) % p ≡ p % r % p
inverse_step p x a r h pos e =
    mul-mod_first (p / r * (p - a)) x p
    ∙ mod_same p (p / r * (p - a) * x) (p % r) (p / r * (a * x / p) + 1) (p / r * x)
    (let q : ℕ = p / r in
    let t : ℕ = a * x / p in
    let b : ℕ = p - a in
    let whole : b + a ≡ p = omega arith in
    let e1 : q * b * x ≡ q * x * b =
    mul_assoc q b x ∙ ap (λ z. q * z) (mul_comm b x) ∙ sym (mul_assoc q x b) in
    let e2 : q * x * b + q * x * a ≡ q * x * p =
    sym (mul-add (q * x) b a) ∙ ap (λ z. q * x * z) whole in
    let e3 : q * x * a ≡ q * (a * x) = mul_assoc q x a ∙ ap (λ z. q * z) (mul_comm x a) in
    let e4 : q * (a * x) ≡ q * (p * t) + q * r =
    ap (λ z. q * z) (sym (div-add-mod (a * x) p)) ∙ mul-add q (p * t) (a * x % p)
    ∙ ap (λ z. q * (p * t) + q * z) e in
    let e5 : p * (q * t + 1) ≡ q * (p * t) + p =
    mul-add p (q * t) 1 ∙ ap (λ z. z + p * 1) (mul_left_comm p q t) ∙ omega arith in
    let e6 : q * r + p % r ≡ p = ap (λ z. z + p % r) (mul_comm q r) ∙ div-add-mod p r in
    omega (arith, mul_comm p (q * x)))

-- on the way to an inverse of x, a times x leaves r: since p is prime, no remainder is 0 before 1
abbrev pub OnWay : (p x a r : ℕ) → Type 0
OnWay p x a r = (0 < r) × (r < p) × (a < p) × ((a * x) % p ≡ r)

on_way : (p : ℕ) → Prime p → (x : ℕ) → 0 < x → x < p → OnWay p x 1 x
on_way p pr x h k = (h, k, pr.low, ap (λ z. z % p) (one-mul x) ∙ mod-eq_of_lt k)

pub onward : (p : ℕ) → Prime p → (x a r : ℕ) → OnWay p x a r → 1 < r
    → OnWay p x (p / r * (p - a) % p) (p % r)
onward p pr x a r w more =
    let nonzero : p % r ≡ 0 → ⊥ = pr.whole r more w.1 in
    let less : p % r < r = mod-lt p w.0 in
    let pos : 0 < p = omega arith in
    let within : p % r < p = omega arith in
    let step = inverse_step p x a r (omega arith) pos w.3 in
    (omega arith, within, mod-lt (p / r * (p - a)) pos, step ∙ mod-eq_of_lt within)

-- from r up to k on
found_from : (p : ℕ) → Prime p → (x k a r : ℕ) → OnWay p x a r → r ≤ k
    → (y : ℕ) × (y < p) × ((y * x) % p ≡ 1)
found_from p pr x zero a r w h = absurd (omega arith)
found_from p pr x (suc k) a r w h =
    ⊎_elim
    (λ one. (a, w.2, w.3 ∙ one))
    (λ more.
    let less : p % r < r = mod-lt p w.0 in
    let next = onward p pr x a r w (omega arith) in
    found_from p pr x k (p / r * (p - a) % p) (p % r) next (omega arith))
    (cases_eq r 1)

pub has_inverse : (p : ℕ) → Prime p → (x : ℕ) → 0 < x → x < p
    → (y : ℕ) × (y < p) × ((y * x) % p ≡ 1)
has_inverse p pr x h k = found_from p pr x x 1 x (on_way p pr x h k) (omega arith)
