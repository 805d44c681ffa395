-- The product of bytes is the one remainder of their carry-less product: both are linear in each
-- factor, so a test at the powers of t suffices. Assumes nothing.
use Rattle.std.proofs.Common.{◌≡◌, ℕ, zero, suc, ◌+◌, ◌*◌, ◌/◌, ◌%◌, ◌^◌, ◌<◌, Bool, true, T, bit_xor, nat_lt, refl, sym, ap, ap₂, subst, ◌∙◌, mod-lt, arith, lit<, if◌then◌else◌}
use Rattle.std.specs.Prelude.{◌==◌}
use Rattle.std.specs.Int.Bits.{xor_assoc, xor_self, xor_zero_r, xor_zero_l}
use Rattle.std.proofs.Math.Nat.{div-add-mod}
use Rattle.std.proofs.lemmas.Bool.{eqb-true, lt-ltb}
use Rattle.std.proofs.lemmas.Nat.{xor_comm, xor_lt, xor_mod, xor_shr}
use Rattle.field.specs.Below.{Below}
use Rattle.field.proofs.Tests.{all, all_at}
use Rattle.byte.specs.Product.{product}
use Rattle.byte.specs.Polynomials.{sum_below, coefficient, carry_less, modulus, IsRemainder}
use Rattle.byte.specs.Proofs.Linear.{Linear, xor_swap, bit_left, bit_right, linear_zero, shifted, odd, left, right, agree_twice}
use Rattle.byte.specs.Proofs.Laws.{product_lt}

sum_linear : (n : ℕ) (f : ℕ → ℕ → ℕ) → ((i : ℕ) → Linear (f i)) → Linear (λ a. sum_below n (λ i. f i a))
sum_linear zero f l a b = refl
sum_linear (suc n) f l a b =
    ap₂ bit_xor (sum_linear n f l a b) (l n a b)
    ∙ xor_swap (sum_below n (λ i. f i a)) (sum_below n (λ i. f i b)) (f n a) (f n b)

coefficient_linear : (i : ℕ) → Linear (λ b. coefficient b i)
coefficient_linear i a b = ap (λ z. z % 2) (xor_shr a b i) ∙ xor_mod (a / 2 ^ i) (b / 2 ^ i) 1

carry_less_left : (b : ℕ) → Linear (λ a. carry_less a b)
unfolding carry_less
carry_less_left b =
    sum_linear 8 (λ i a. coefficient b i * (a * 2 ^ i))
    (λ i x y.
    ap (λ z. coefficient b i * z) (shifted i x y)
    ∙ bit_right (coefficient b i) (x * 2 ^ i) (y * 2 ^ i) (odd (b / 2 ^ i)))

carry_less_right : (a : ℕ) → Linear (λ b. carry_less a b)
unfolding carry_less
carry_less_right a =
    sum_linear 8 (λ i b. coefficient b i * (a * 2 ^ i))
    (λ i x y.
    ap (λ z. z * (a * 2 ^ i)) (coefficient_linear i x y)
    ∙ bit_left (coefficient x i) (coefficient y i) (a * 2 ^ i) (odd (x / 2 ^ i)) (odd (y / 2 ^ i)))

-- the quotient by the modulus, of a polynomial of degree at most 14
quotient_of : ℕ → ℕ
quotient_of c = let h = c / 2 ^ 8 in bit_xor h (bit_xor (h / 2 ^ 4) (h / 2 ^ 5))

quotient_linear : Linear quotient_of
unfolding quotient_of
quotient_linear a b =
    let g : ℕ = a / 2 ^ 8 in
    let h : ℕ = b / 2 ^ 8 in
    ap (λ z. bit_xor z (bit_xor (z / 2 ^ 4) (z / 2 ^ 5))) (xor_shr a b 8)
    ∙ ap (bit_xor (bit_xor g h))
    (ap₂ bit_xor (xor_shr g h 4) (xor_shr g h 5) ∙ xor_swap (g / 2 ^ 4) (h / 2 ^ 4) (g / 2 ^ 5) (h / 2 ^ 5))
    ∙ xor_swap g h (bit_xor (g / 2 ^ 4) (g / 2 ^ 5)) (bit_xor (h / 2 ^ 4) (h / 2 ^ 5))

-- a multiple of the modulus, plus the product
rebuilt : ℕ → ℕ → ℕ
rebuilt a b = bit_xor (carry_less modulus (quotient_of (carry_less a b))) (product a b)

multiple_linear : Linear (λ c. carry_less modulus (quotient_of c))
multiple_linear a b =
    ap (carry_less modulus) (quotient_linear a b)
    ∙ carry_less_right modulus (quotient_of a) (quotient_of b)

rebuilt_same : (c d p q : ℕ)
    → bit_xor (carry_less modulus (quotient_of (bit_xor c d))) (bit_xor p q)
    ≡ bit_xor (bit_xor (carry_less modulus (quotient_of c)) p) (bit_xor (carry_less modulus (quotient_of d)) q)
rebuilt_same c d p q =
    ap (λ z. bit_xor z (bit_xor p q)) (multiple_linear c d)
    ∙ xor_swap (carry_less modulus (quotient_of c)) (carry_less modulus (quotient_of d)) p q

rebuilt_left : (b : ℕ) → Linear (λ a. rebuilt a b)
unfolding rebuilt
rebuilt_left b x y =
    ap₂ (λ c p. bit_xor (carry_less modulus (quotient_of c)) p) (carry_less_left b x y) (left b x y)
    ∙ rebuilt_same (carry_less x b) (carry_less y b) (product x b) (product y b)

rebuilt_right : (a : ℕ) → Linear (rebuilt a)
unfolding rebuilt
rebuilt_right a x y =
    ap₂ (λ c p. bit_xor (carry_less modulus (quotient_of c)) p) (carry_less_right a x y) (right a x y)
    ∙ rebuilt_same (carry_less a x) (carry_less a y) (product a x) (product a y)

rebuilt_passes : T (all 8 (λ i. all 8 (λ j. carry_less (2 ^ i) (2 ^ j) == rebuilt (2 ^ i) (2 ^ j))))
unfolding rebuilt quotient_of carry_less product
rebuilt_passes = tt

-- the part of the quotient at and above t^8
excess : ℕ → ℕ → ℕ
excess a b = quotient_of (carry_less a b) / 2 ^ 8

excess_same : (c d : ℕ) → quotient_of (bit_xor c d) / 2 ^ 8 ≡ bit_xor (quotient_of c / 2 ^ 8) (quotient_of d / 2 ^ 8)
excess_same c d = ap (λ z. z / 2 ^ 8) (quotient_linear c d) ∙ xor_shr (quotient_of c) (quotient_of d) 8

excess_left : (b : ℕ) → Linear (λ a. excess a b)
unfolding excess
excess_left b x y = ap (λ c. quotient_of c / 2 ^ 8) (carry_less_left b x y) ∙ excess_same (carry_less x b) (carry_less y b)

excess_right : (a : ℕ) → Linear (excess a)
unfolding excess
excess_right a x y = ap (λ c. quotient_of c / 2 ^ 8) (carry_less_right a x y) ∙ excess_same (carry_less a x) (carry_less a y)

excess_passes : T (all 8 (λ i. all 8 (λ j. excess (2 ^ i) (2 ^ j) == 0)))
unfolding excess quotient_of carry_less
excess_passes = tt

quotient_lt : (a b : ℕ) → a < 256 → b < 256 → quotient_of (carry_less a b) < 256
unfolding excess
quotient_lt a b ha hb =
    let n : ℕ = quotient_of (carry_less a b) in
    let none : n / 256 ≡ 0 =
    agree_twice excess (λ x y. 0) excess_left excess_right (λ b x y. refl) (λ a x y. refl) excess_passes a b ha hb in
    let low : n % 256 < 256 = mod-lt n (lit< tt) in
    let whole : 256 * (n / 256) + n % 256 ≡ n = div-add-mod n 256 in
    omega arith

pub product_remainder : (x y : Below 256) → IsRemainder (carry_less x.n y.n) (product x.n y.n)
unfolding rebuilt
product_remainder x y = record {
  low = omega (arith, product_lt x.n y.n x.below);
  quotient = quotient_of (carry_less x.n y.n);
  quotient_low = quotient_lt x.n y.n x.below y.below;
  whole =
      agree_twice carry_less rebuilt carry_less_left carry_less_right rebuilt_left rebuilt_right rebuilt_passes
      x.n y.n x.below y.below;
}

-- of the multiples of the modulus only 0 has a degree below 8
only_test : ℕ → Bool
only_test q = if nat_lt (carry_less modulus q) 256 then q == 0 else true

only_passes : T (all 256 only_test)
unfolding only_test carry_less
only_passes = tt

only_zero : (q : ℕ) → q < 256 → carry_less modulus q < 256 → q ≡ 0
unfolding only_test
only_zero q h l =
    let passes : only_test q ≡ true = all_at 256 only_test only_passes q h in
    eqb-true q 0 (ap (λ b. if b then q == 0 else true) (sym (lt-ltb (carry_less modulus q) 256 l)) ∙ passes)

-- a + c is b + d where a + b is c + d
xor_cross : (a b c d : ℕ) → bit_xor a b ≡ bit_xor c d → bit_xor b d ≡ bit_xor a c
xor_cross a b c d e =
    sym (xor_zero_l (bit_xor b d)) ∙ ap (λ z. bit_xor z (bit_xor b d)) (sym (xor_self a))
    ∙ xor_swap a a b d
    ∙ ap (λ z. bit_xor z (bit_xor a d)) e
    ∙ xor_swap c d a d ∙ ap (bit_xor (bit_xor c a)) (xor_self d) ∙ xor_zero_r (bit_xor c a) ∙ xor_comm c a

pub remainder_unique : (c r s : ℕ) → IsRemainder c r → IsRemainder c s → r ≡ s
remainder_unique c r s m n =
    let q : ℕ = bit_xor m.quotient n.quotient in
    let apart : bit_xor r s ≡ carry_less modulus q =
    xor_cross (carry_less modulus m.quotient) r (carry_less modulus n.quotient) s (sym m.whole ∙ n.whole)
    ∙ sym (carry_less_right modulus m.quotient n.quotient) in
    let none : q ≡ 0 =
    only_zero q (xor_lt 8 m.quotient n.quotient m.quotient_low n.quotient_low)
    (subst (λ z. z < 256) apart (xor_lt 8 r s m.low n.low)) in
    let zero : bit_xor r s ≡ 0 = apart ∙ ap (carry_less modulus) none ∙ linear_zero (carry_less modulus) (carry_less_right modulus) in
    sym (xor_zero_r r) ∙ ap (bit_xor r) (sym (xor_self s)) ∙ sym (xor_assoc r s s) ∙ ap (λ z. bit_xor z s) zero ∙ xor_zero_l s
