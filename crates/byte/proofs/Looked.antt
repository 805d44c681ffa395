-- What is looked up in the tables of logarithms and powers: their rules are tested over the whole tables, and products and
-- inverses follow. Assumes nothing.
use Rattle.std.proofs.Common.{◌≡◌, ℕ, zero, suc, ◌+◌, ◌-◌, ◌<◌, ◌≤◌, Bool, T, nat_lt, get_or, refl, sym, ap, ap₂, subst, ◌∙◌, ◌≢◌, ⊎_elim, arith, lit<}
use Rattle.std.specs.Prelude.{◌==◌}
use Rattle.std.proofs.lemmas.Bool.{eqb-true, ltb-true, cases_eq}
use Rattle.field.proofs.Laws.{not_zero, inverse_only}
use Rattle.field.specs.Below.{Below, same_below}
use Rattle.field.proofs.Tests.{all, all_at}
use Rattle.byte.specs.declared.tables.TheConstants.{LOGARITHMS, POWERS}
use Rattle.byte.specs.Product.{product}
use Rattle.byte.specs.Proofs.Linear.{left, right, linear_zero}
use Rattle.byte.specs.Proofs.Laws.{product_lt, product_one, product_comm, product_assoc}
use Rattle.byte.specs.Bytes.{bytes}

abbrev pub log : ℕ → ℕ
log a = get_or LOGARITHMS a 0

abbrev pub exp : ℕ → ℕ
exp i = get_or POWERS i 0

-- each power is t + 1 times the one before, up to 508; the power of a byte's logarithm is the byte; only that of zero is
-- not below 255; and the powers from 509 on are zero
step_test : ℕ → Bool
step_test i = product 3 (exp i) == exp (suc i)

back_test : ℕ → Bool
back_test a = exp (log a) == a

low_test : ℕ → Bool
low_test a = nat_lt (log (suc a)) 255

none_test : ℕ → Bool
none_test k = exp (509 + k) == 0

step_passes : T (all 508 step_test)
unfolding step_test product
step_passes = tt

back_passes : T (all 256 back_test)
unfolding back_test
back_passes = tt

low_passes : T (all 255 low_test)
unfolding low_test
low_passes = tt

none_passes : T (all 510 none_test)
unfolding none_test
none_passes = tt

step : (i : ℕ) → i < 508 → product 3 (exp i) ≡ exp (suc i)
unfolding step_test
step i h = eqb-true (product 3 (exp i)) (exp (suc i)) (all_at 508 step_test step_passes i h)

back : (a : ℕ) → a < 256 → exp (log a) ≡ a
unfolding back_test
back a h = eqb-true (exp (log a)) a (all_at 256 back_test back_passes a h)

low : (a : ℕ) → suc a < 256 → log (suc a) < 255
unfolding low_test
low a h = ltb-true (log (suc a)) 255 (all_at 255 low_test low_passes a (omega arith))

pub low_unless_zero : (a : ℕ) → a ≢ 0 → a < 256 → log a < 255
low_unless_zero zero some h = absurd (some refl)
low_unless_zero (suc a) some h = low a h

none : (k : ℕ) → k < 510 → exp (509 + k) ≡ 0
unfolding none_test
none k h = eqb-true (exp (509 + k)) 0 (all_at 510 none_test none_passes k h)

pub log_at_most : (a : ℕ) → a < 256 → log a ≤ 509
log_at_most a h = ⊎_elim (λ z. subst (λ n. log n ≤ 509) (sym z) (omega arith)) (λ some. let l : log a < 255 = low_unless_zero a some h in omega arith) (cases_eq a 0)

pub exp_lt : (i : ℕ) → i ≤ 508 → exp i < 256
exp_lt zero h = lit< tt
exp_lt (suc i) h = subst (λ n. n < 256) (step i (omega arith)) (product_lt 3 (exp i) (lit< tt))

powers_add : (i j : ℕ) → i + j ≤ 508 → product (exp i) (exp j) ≡ exp (i + j)
powers_add zero j h =
    let fits : exp j < 256 = exp_lt j (omega arith) in
    let none : j ≡ zero + j = omega arith in
    product_comm 1 (exp j) (lit< tt) fits ∙ product_one (exp j) fits ∙ ap exp none
powers_add (suc i) j h =
    let more : suc (i + j) ≡ suc i + j = omega arith in
    ap (λ z. product z (exp j)) (sym (step i (omega arith)))
    ∙ product_assoc 3 (exp i) (exp j) (lit< tt) (exp_lt i (omega arith)) (exp_lt j (omega arith))
    ∙ ap (product 3) (powers_add i j (omega arith))
    ∙ step (i + j) (omega arith)
    ∙ ap exp more

-- sums of two logarithms fit, and lie within the powers
pub sum_within : {m n : ℕ} → m ≤ 509 → n ≤ 509 → m + n < 1019
sum_within h k = omega arith

-- the rule of the tables
pub product_looked : (a b : ℕ) → a < 256 → b < 256 → exp (log a + log b) ≡ product a b
product_looked a b ha hb =
    let ma : log a ≤ 509 = log_at_most a ha in
    let mb : log b ≤ 509 = log_at_most b hb in
    let turned : log a + 509 ≡ 509 + log a = omega arith in
    ⊎_elim
    (λ z. ap (λ n. exp (log n + log b)) z ∙ none (log b) (omega arith) ∙ sym (ap (λ n. product n b) z ∙ linear_zero (λ n. product n b) (left b)))
    (λ some.
    ⊎_elim
    (λ z. ap (λ n. exp (log a + log n)) z ∙ ap exp turned ∙ none (log a) (omega arith) ∙ sym (ap (product a) z ∙ linear_zero (product a) (right a)))
    (λ more.
    let la : log a < 255 = low_unless_zero a some ha in
    let lb : log b < 255 = low_unless_zero b more hb in
    sym (powers_add (log a) (log b) (omega arith)) ∙ ap₂ product (back a ha) (back b hb))
    (cases_eq b 0))
    (cases_eq a 0)

-- a power and its inverse multiply to the power 255, which is one
pub inverse_looked : (x y : Below 256) → x.n ≢ 0 → y.n ≡ exp (255 - log x.n) → (x ≢ bytes.zero) × (y ≡ bytes.inverse x)
inverse_looked x y some e =
    let l : log x.n < 255 = low_unless_zero x.n some x.below in
    let whole : log x.n + (255 - log x.n) ≡ 255 = omega arith in
    let one : product x.n (exp (255 - log x.n)) ≡ 1 =
    ap (λ z. product z (exp (255 - log x.n))) (sym (back x.n x.below)) ∙ powers_add (log x.n) (255 - log x.n) (omega arith) ∙ ap exp whole in
    let unit : bytes.times x y ≡ bytes.one = same_below _ _ (ap (product x.n) e ∙ one) in
    (not_zero bytes x y unit, inverse_only bytes x y unit)
