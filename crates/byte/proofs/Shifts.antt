-- The turns of the loop of `product_by_shifts`. Assumes nothing.
use Rattle.std.specs.Prelude.{bit_xor}
use Rattle.std.specs.Int.Bits.{xor_assoc, xor_zero_r}
use Rattle.std.proofs.Common.{◌≡◌, ℕ, suc, ◌+◌, ◌-◌, ◌*◌, ◌/◌, ◌%◌, ◌<◌, ◌≤◌, sym, refl, ap, ◌∙◌, mod-eq_of_lt, arith}
use Rattle.std.proofs.lemmas.Nat.{xor_lt}
use Rattle.byte.specs.Product.{raised, partial, product}

pub shifted_lt : (x : ℕ) → x < 256 → bit_xor (x % 128 * 2) (x / 128 * 27) < 256
shifted_lt x h = xor_lt 8 (x % 128 * 2) (x / 128 * 27) (omega arith) (omega arith)

shifted_is : (x : ℕ) → x < 256 → bit_xor (x % 128 * 2) (x / 128 * 27) ≡ raised x
shifted_is x h =
    let bit : x / 128 < 2 = omega arith in
    ap (λ z. bit_xor (x % 128 * 2) (z * 27)) (sym (mod-eq_of_lt bit))

pub turn : (i sum x y : ℕ) → i < 8 → x < 256
    → bit_xor (bit_xor sum (y % 2 * x)) (partial (8 - (i + 1)) (bit_xor (x % 128 * 2) (x / 128 * 27)) (y / 2)) ≡ bit_xor sum (partial (8 - i) x y)
turn i sum x y h fits =
    let more : suc (8 - (i + 1)) ≡ 8 - i = omega arith in
    xor_assoc sum (y % 2 * x) (partial (8 - (i + 1)) (bit_xor (x % 128 * 2) (x / 128 * 27)) (y / 2))
    ∙ ap (λ z. bit_xor sum (bit_xor (y % 2 * x) (partial (8 - (i + 1)) z (y / 2)))) (shifted_is x fits)
    ∙ ap (λ k. bit_xor sum (partial k x y)) more

pub start : (a b : ℕ) → bit_xor 0 (partial 8 a b) ≡ product a b
unfolding product
start a b = refl

pub ends : (i sum x y : ℕ) → 8 ≤ i → bit_xor sum (partial (8 - i) x y) ≡ sum
ends i sum x y h =
    let none : 8 - i ≡ 0 = omega arith in
    ap (λ k. bit_xor sum (partial k x y)) none ∙ xor_zero_r sum
