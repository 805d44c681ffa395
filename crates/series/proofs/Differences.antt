-- Two values are the same exactly where their difference is zero. Assumes nothing.
use Rattle.std.proofs.Common.{◌≡◌, sym, ap, ◌∙◌}
use Rattle.field.specs.FiniteField.{FiniteField}
use Rattle.field.proofs.Laws.{zero_plus, ring}

module _ {V : Type 0} (K : FiniteField V) where
  pub minus_zero : (x y : V) → K.plus x (K.opposite y) ≡ K.zero → x ≡ y
  minus_zero x y e = sym (simp (ring, K)) ∙ ap (λ v. K.plus v y) e ∙ zero_plus K y

  pub take_back : (x y : V) → K.plus x (K.times (K.opposite K.one) (K.plus x (K.opposite y))) ≡ y
  take_back x y = simp (ring, K)

  pub zero_minus : (x y : V) → x ≡ y → K.plus x (K.opposite y) ≡ K.zero
  zero_minus x y e = ap (λ v. K.plus v (K.opposite y)) e ∙ K.plus_opposite y
