-- The laws of the field of bytes, from linearity and computed tests. Assumes nothing.
use Rattle.std.specs.Prelude.{◌≡◌, ℕ, zero, suc, ◌*◌, ◌/◌, ◌%◌, ◌^◌, ◌<◌, ◌≤◌, min, Bool, T, ◌≢◌, ◌==◌, refl}
use Rattle.std.proofs.Common.{sym, ap, ◌∙◌, mod-lt, arith, lit<}
use Rattle.std.proofs.lemmas.Bool.{eqb-true}
use Rattle.std.proofs.lemmas.Nat.{mul-le, xor_lt}
use Rattle.field.specs.Below.{Below}
use Rattle.field.proofs.Tests.{all, all_at}
use Rattle.byte.specs.Product.{raised, partial, product, power, inverse_of}
use Rattle.byte.specs.Proofs.Linear.{left, right, agree, agree_by, agree_twice, passed}

raised_lt : (a : ℕ) → raised a < 256
raised_lt a =
    xor_lt 8 (a % 128 * 2) (a / 128 % 2 * 27)
    (omega (arith, mod-lt a {m = 128} (lit< tt)))
    (omega (arith, mod-lt (a / 128) {m = 2} (lit< tt)))

pub bit_lt : (b a : ℕ) → a < 256 → b % 2 * a < 256
bit_lt b a h =
    let bit : b % 2 < 2 = mod-lt b (lit< tt) in
    let most : b % 2 * a ≤ 1 * 255 = mul-le (b % 2) a 1 255 (omega arith) (omega arith) in
    omega arith

partial_lt : (k a b : ℕ) → a < 256 → partial k a b < 256
partial_lt zero a b h = lit< tt
partial_lt (suc k) a b h =
    xor_lt 8 (b % 2 * a) (partial k (raised a) (b / 2)) (bit_lt b a h)
    (partial_lt k (raised a) (b / 2) (raised_lt a))

pub product_lt : (a b : ℕ) → a < 256 → product a b < 256
unfolding product
product_lt a b h = partial_lt 8 a b h

pub power_lt : (k r s : ℕ) → r < 256 → power k r s < 256
unfolding power
power_lt zero r s h = h
power_lt (suc k) r s h =
    power_lt k (product r (product s s)) (product s s) (product_lt r (product s s) h)

pub inverse_lt : (a : ℕ) → inverse_of a < 256
unfolding inverse_of
inverse_lt a = power_lt 7 1 a (lit< tt)

-- tests that are computed at the powers of t
one_passes : T (all 8 (λ i. product (2 ^ i) 1 == 2 ^ i))
unfolding product
one_passes = tt

comm_passes : T (all 8 (λ i. all 8 (λ j. product (2 ^ i) (2 ^ j) == product (2 ^ j) (2 ^ i))))
unfolding product
comm_passes = tt

assoc_test : ℕ → Bool
assoc_test k =
    all 8 (λ i. all 8 (λ j.
    product (product (2 ^ i) (2 ^ j)) (2 ^ k) == product (2 ^ i) (product (2 ^ j) (2 ^ k))))

assoc_passes : T (all 8 assoc_test)
unfolding assoc_test product
assoc_passes = tt

-- and a test at all bytes
inverse_test : ℕ → Bool
inverse_test a = product a (inverse_of a) == min a 1

inverse_passes : T (all 256 inverse_test)
unfolding inverse_test product power inverse_of
inverse_passes = tt

pub product_one : (a : ℕ) → a < 256 → product a 1 ≡ a
product_one a h = agree_by (λ x. product x 1) (λ x. x) (left 1) (λ x y. refl) one_passes a h

pub product_comm : (a b : ℕ) → a < 256 → b < 256 → product a b ≡ product b a
product_comm a b ha hb =
    agree_twice product (λ x y. product y x) left right right left comm_passes a b ha hb

pub product_assoc : (a b c : ℕ) → a < 256 → b < 256 → c < 256
    → product (product a b) c ≡ product a (product b c)
unfolding assoc_test
product_assoc a b c ha hb hc =
    agree (λ z. product (product a b) z) (λ z. product a (product b z))
    (right (product a b))
    (λ x y. ap (product a) (right b x y) ∙ right a (product b x) (product b y)) 8
    (λ k l.
    let d : ℕ = 2 ^ k in
    agree_twice (λ x y. product (product x y) d) (λ x y. product x (product y d))
    (λ y u v. ap (λ z. product z d) (left y u v) ∙ left d (product u y) (product v y))
    (λ x u v. ap (λ z. product z d) (right x u v) ∙ left d (product x u) (product x v))
    (λ y. left (product y d))
    (λ x u v. ap (product x) (left d u v) ∙ right x (product u d) (product v d))
    (passed (assoc_test k) (all_at 8 assoc_test assoc_passes k l)) a b ha hb)
    c hc

pub product_inverse : (a : ℕ) → a < 256 → (a ≢ 0) → product a (inverse_of a) ≡ 1
unfolding inverse_test
product_inverse a h some =
    eqb-true (product a (inverse_of a)) (min a 1) (all_at 256 inverse_test inverse_passes a h)
    ∙ omega arith

pub one_not_zero : (x y : Below 256) → x.n ≡ 1 → y.n ≡ 0 → x ≢ y
one_not_zero x y one none e =
    let z : ◌≡◌ {A = ℕ} 1 0 = sym one ∙ ap (λ b. b.n) e ∙ none in omega arith
