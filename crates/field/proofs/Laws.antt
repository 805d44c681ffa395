-- What the laws of a field give, and the rules by which `simp (ring, K)` closes a ring identity. Assumes nothing.
use Rattle.std.proofs.Common.{◌≡◌, ◌≢◌, sym, ap, ◌∙◌, ap₂}
use native.Mathlib.Decide.{ℕ_discrete, map_dec}
use Rattle.field.specs.FiniteField.{FiniteField}

module _ {V : Type 0} (K : FiniteField V) where
  infixl 65 ◌⊕◌
  infixl 70 ◌⊗◌
  open K use {plus as ◌⊕◌, times as ◌⊗◌, zero as 𝟘, one as 𝟙, opposite as neg, inverse as inv}

  pub zero_plus : (x : V) → 𝟘 ⊕ x ≡ x
  zero_plus x = K.plus_comm 𝟘 x ∙ K.plus_zero x

  pub plus_left_comm : (x y z : V) → x ⊕ (y ⊕ z) ≡ y ⊕ (x ⊕ z)
  plus_left_comm x y z = sym (K.plus_assoc x y z) ∙ ap (λ w. w ⊕ z) (K.plus_comm x y) ∙ K.plus_assoc y x z

  pub times_left_comm : (x y z : V) → x ⊗ (y ⊗ z) ≡ y ⊗ (x ⊗ z)
  times_left_comm x y z = sym (K.times_assoc x y z) ∙ ap (λ w. w ⊗ z) (K.times_comm x y) ∙ K.times_assoc y x z

  pub plus_cancel : (x y z : V) → x ⊕ y ≡ x ⊕ z → y ≡ z
  plus_cancel x y z e = sym (undo y) ∙ ap (λ w. neg x ⊕ w) e ∙ undo z
    where
      undo : (w : V) → neg x ⊕ (x ⊕ w) ≡ w
      undo w = sym (K.plus_assoc (neg x) x w) ∙ ap (λ v. v ⊕ w) (K.plus_comm (neg x) x ∙ K.plus_opposite x) ∙ zero_plus w

  pub times_zero : (x : V) → x ⊗ 𝟘 ≡ 𝟘
  times_zero x = plus_cancel (x ⊗ 𝟘) (x ⊗ 𝟘) 𝟘 (sym (K.times_plus x 𝟘 𝟘) ∙ ap (λ w. x ⊗ w) (K.plus_zero 𝟘) ∙ sym (K.plus_zero (x ⊗ 𝟘)))

  pub zero_times : (x : V) → 𝟘 ⊗ x ≡ 𝟘
  zero_times x = K.times_comm 𝟘 x ∙ times_zero x

  pub one_times : (x : V) → 𝟙 ⊗ x ≡ x
  one_times x = K.times_comm 𝟙 x ∙ K.times_one x

  pub plus_times : (x y z : V) → (x ⊕ y) ⊗ z ≡ x ⊗ z ⊕ y ⊗ z
  plus_times x y z = K.times_comm (x ⊕ y) z ∙ K.times_plus z x y ∙ cc (K.times_comm z x, K.times_comm z y)

  pub neg_times : (x y : V) → neg x ⊗ y ≡ neg (x ⊗ y)
  neg_times x y = plus_cancel (x ⊗ y) (neg x ⊗ y) (neg (x ⊗ y)) (sym (plus_times x (neg x) y) ∙ ap (λ w. w ⊗ y) (K.plus_opposite x) ∙ zero_times y ∙ sym (K.plus_opposite (x ⊗ y)))

  pub swap_middle : (a b c d : V) → (a ⊕ b) ⊕ (c ⊕ d) ≡ (a ⊕ c) ⊕ (b ⊕ d)
  swap_middle a b c d = simp (K.plus_assoc, plus_left_comm)

  pub neg_zero : neg 𝟘 ≡ 𝟘
  neg_zero = sym (zero_plus (neg 𝟘)) ∙ K.plus_opposite 𝟘

  pub times_neg : (x y : V) → x ⊗ neg y ≡ neg (x ⊗ y)
  times_neg x y = K.times_comm x (neg y) ∙ neg_times y x ∙ ap neg (K.times_comm y x)

  pub neg_plus : (x y : V) → neg (x ⊕ y) ≡ neg x ⊕ neg y
  neg_plus x y = plus_cancel (x ⊕ y) (neg (x ⊕ y)) (neg x ⊕ neg y) (K.plus_opposite (x ⊕ y) ∙ sym (swap_middle x y (neg x) (neg y) ∙ ap₂ ◌⊕◌ (K.plus_opposite x) (K.plus_opposite y) ∙ K.plus_zero 𝟘))

  pub neg_neg : (x : V) → neg (neg x) ≡ x
  neg_neg x = plus_cancel (neg x) (neg (neg x)) x (K.plus_opposite (neg x) ∙ sym (K.plus_comm (neg x) x ∙ K.plus_opposite x))

  -- the laws once more, so that a set of rules can hold them
  pub plus_assoc : (x y z : V) → x ⊕ y ⊕ z ≡ x ⊕ (y ⊕ z)
  plus_assoc = K.plus_assoc

  pub plus_comm : (x y : V) → x ⊕ y ≡ y ⊕ x
  plus_comm = K.plus_comm

  pub plus_zero : (x : V) → x ⊕ 𝟘 ≡ x
  plus_zero = K.plus_zero

  pub times_assoc : (x y z : V) → x ⊗ y ⊗ z ≡ x ⊗ (y ⊗ z)
  times_assoc = K.times_assoc

  pub times_comm : (x y : V) → x ⊗ y ≡ y ⊗ x
  times_comm = K.times_comm

  pub times_one : (x : V) → x ⊗ 𝟙 ≡ x
  times_one = K.times_one

  pub times_plus : (x y z : V) → x ⊗ (y ⊕ z) ≡ x ⊗ y ⊕ x ⊗ z
  times_plus = K.times_plus

  pub plus_opposite : (x : V) → x ⊕ neg x ≡ 𝟘
  plus_opposite = K.plus_opposite

  pub plus_opposite_left : (x y : V) → x ⊕ (neg x ⊕ y) ≡ y
  plus_opposite_left x y = sym (K.plus_assoc x (neg x) y) ∙ ap (λ w. w ⊕ y) (K.plus_opposite x) ∙ zero_plus y

  pub plus_around : (x y : V) → x ⊕ (y ⊕ neg x) ≡ y
  plus_around x y = plus_left_comm x y (neg x) ∙ ap (λ w. y ⊕ w) (K.plus_opposite x) ∙ K.plus_zero y

  pub plus_around_more : (x y z : V) → x ⊕ (y ⊕ (neg x ⊕ z)) ≡ y ⊕ z
  plus_around_more x y z = plus_left_comm x y (neg x ⊕ z) ∙ ap (λ w. y ⊕ w) (plus_opposite_left x z)

  -- what has an inverse is not zero, and has one inverse
  pub not_zero : (x y : V) → x ⊗ y ≡ 𝟙 → x ≢ 𝟘
  not_zero x y e z = K.one_not_zero (sym e ∙ ap (λ v. v ⊗ y) z ∙ zero_times y)

  pub inverse_only : (x y : V) → x ⊗ y ≡ 𝟙 → y ≡ inv x
  inverse_only x y e =
      sym (K.times_one y) ∙ ap (λ v. y ⊗ v) (sym (K.times_inverse x (not_zero x y e)))
      ∙ sym (K.times_assoc y x (inv x)) ∙ ap (λ v. v ⊗ inv x) (K.times_comm y x ∙ e) ∙ one_times (inv x)

  -- equality of values is decided by their codes
  pub code_only : (x y : V) → K.code x ≡ K.code y → x ≡ y
  code_only x y e = sym (K.decode_code x) ∙ ap K.decode e ∙ K.decode_code y

  pub same? : Discrete V
  same? x y = map_dec (code_only x y) (ap K.code) (ℕ_discrete (K.code x) (K.code y))

-- `simp (ring, K)` brings both sides of an equation to sums of products, sorted
pub ruleset ring = (plus_opposite, plus_opposite_left, plus_around, plus_around_more, neg_plus, neg_neg, neg_zero, neg_times, times_neg, times_plus, plus_times, times_zero, zero_times, times_one, one_times, zero_plus, plus_zero, plus_assoc, times_assoc, plus_comm, plus_left_comm, times_comm, times_left_comm)
