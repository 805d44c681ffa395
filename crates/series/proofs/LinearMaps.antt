-- Linear maps, and linear maps made of linear maps. Assumes nothing.
use Rattle.std.proofs.Common.{◌≡◌, ℕ, zero, suc, ◌+◌, ◌<◌, sym, refl, ap, ◌∙◌, ap₂}
use Rattle.field.specs.FiniteField.{FiniteField}
use Rattle.field.proofs.Laws.{ring}
use Rattle.series.specs.Spans.{Span, none, more}
use Rattle.series.specs.Families.{mix}
use Rattle.series.specs.Tables.{beside}
use Rattle.series.proofs.SpanLaws.{span_span, span_zero}
use Rattle.series.proofs.Places.{both_parts, beside_left, beside_right}

-- a linear map
pub record Linear {V : Type 0} (K : FiniteField V) {X Y : Type 0} (P : X → Type 0) (Q : Y → Type 0) (f : (X → V) → Y → V) : Type 0 where
  pub same : (x y : X → V) → ((i : X) → P i → x i ≡ y i) → (j : Y) → Q j → f x j ≡ f y j
  pub zeros : (j : Y) → Q j → f (λ i. K.zero) j ≡ K.zero
  pub mixes : (c : V) (x z : X → V) (j : Y) → Q j → f (λ i. K.plus (K.times c (x i)) (z i)) j ≡ K.plus (K.times c (f x j)) (f z j)

module _ {V : Type 0} (K : FiniteField V) {X Y : Type 0} {P : X → Type 0} {Q : Y → Type 0} (f : (X → V) → Y → V) (L : Linear K P Q f) where
  pub span_map : {S : (X → V) → Type 0} {T : (Y → V) → Type 0} {y : X → V} → ((x : X → V) → S x → T (f x)) → Span K P S y → Span K Q T (f y)
  span_map {S} {T} {y} h (none e) = none (λ j q. L.same y (λ i. K.zero) e j q ∙ L.zeros j q)
  span_map {S} {T} {y} h (more c x w s t e) = more c (f x) (f w) (h x s) (span_map h t) (λ j q. L.same y (λ i. K.plus (K.times c (x i)) (w i)) e j q ∙ L.mixes c x w j q)

  -- what is mapped to combinations of T's
  pub span_through : {S : (X → V) → Type 0} {T : (Y → V) → Type 0} {y : X → V} → ((x : X → V) → S x → Span K Q T (f x)) → Span K P S y → Span K Q T (f y)
  span_through {S} {T} h s = span_span K Q (λ x t. t) (span_map {T = Span K Q T} h s)

  -- what is mapped to zero at a place
  pub span_gone : (q : Y) → Q q → {S : (X → V) → Type 0} {y : X → V} → ((x : X → V) → S x → f x q ≡ K.zero) → Span K P S y → f y q ≡ K.zero
  span_gone q p h s = span_zero K Q q p (λ z t. t) (span_map {T = λ z. z q ≡ K.zero} h s)

module _ {V : Type 0} (K : FiniteField V) where
  infixl 65 ◌⊕◌
  infixl 70 ◌⊗◌
  open K use {plus as ◌⊕◌, times as ◌⊗◌, zero as 𝟘, opposite as neg}

  module _ {X : Type 0} (P : X → Type 0) (n m : ℕ) (f g : (X → V) → ℕ → V) (F : Linear K P (λ i. i < n) f) (G : Linear K P (λ i. i < m) g) where
    pub beside_linear : Linear K P (λ i. i < n + m) (λ z. beside n (f z) (g z))
    beside_linear = record {
      same = λ x y e. both_parts n m (λ i. beside n (f x) (g x) i ≡ beside n (f y) (g y) i)
          (λ i l. beside_left n (f x) (g x) i l ∙ F.same x y e i l ∙ sym (beside_left n (f y) (g y) i l))
          (λ i l. beside_right n (f x) (g x) i ∙ G.same x y e i l ∙ sym (beside_right n (f y) (g y) i));
      zeros = both_parts n m (λ i. beside n (f (λ j. 𝟘)) (g (λ j. 𝟘)) i ≡ 𝟘)
          (λ i l. beside_left n (f (λ j. 𝟘)) (g (λ j. 𝟘)) i l ∙ F.zeros i l)
          (λ i l. beside_right n (f (λ j. 𝟘)) (g (λ j. 𝟘)) i ∙ G.zeros i l);
      mixes = λ c x z. both_parts n m (λ i. beside n (f (λ j. c ⊗ x j ⊕ z j)) (g (λ j. c ⊗ x j ⊕ z j)) i ≡ c ⊗ beside n (f x) (g x) i ⊕ beside n (f z) (g z) i)
          (λ i l. beside_left n (f (λ j. c ⊗ x j ⊕ z j)) (g (λ j. c ⊗ x j ⊕ z j)) i l ∙ F.mixes c x z i l
          ∙ sym (ap₂ (λ v w. c ⊗ v ⊕ w) (beside_left n (f x) (g x) i l) (beside_left n (f z) (g z) i l)))
          (λ i l. beside_right n (f (λ j. c ⊗ x j ⊕ z j)) (g (λ j. c ⊗ x j ⊕ z j)) i ∙ G.mixes c x z i l ∙ sym (ap₂ (λ v w. c ⊗ v ⊕ w) (beside_right n (f x) (g x) i) (beside_right n (f z) (g z) i)));
    }

  -- a linear map behind another
  pub linear_linear : {X Y Z : Type 0} {P : X → Type 0} {Q : Y → Type 0} {R : Z → Type 0} (f : (X → V) → Y → V) (g : (Y → V) → Z → V) → Linear K P Q f → Linear K Q R g → Linear K P R (λ x. g (f x))
  linear_linear f g F G = record {
    same = λ x y e. G.same (f x) (f y) (F.same x y e);
    zeros = λ j r. G.same (f (λ i. 𝟘)) (λ i. 𝟘) F.zeros j r ∙ G.zeros j r;
    mixes = λ c x z j r. G.same (f (λ i. c ⊗ x i ⊕ z i)) (λ i. c ⊗ f x i ⊕ f z i) (F.mixes c x z) j r ∙ G.mixes c (f x) (f z) j r;
  }

  -- the places of x, taken from elsewhere
  pub places_linear : {X Y : Type 0} (P : X → Type 0) (Q : Y → Type 0) (h : Y → X) → ((j : Y) → Q j → P (h j)) → Linear K P Q (λ x j. x (h j))
  places_linear P Q h at = record { same = λ x y e j q. e (h j) (at j q); zeros = λ j q. refl; mixes = λ c x z j q. refl }

  -- the difference of two
  pub minus_linear : {X Y : Type 0} {P : X → Type 0} {Q : Y → Type 0} (f g : (X → V) → Y → V) → Linear K P Q f → Linear K P Q g → Linear K P Q (λ x j. f x j ⊕ neg (g x j))
  minus_linear f g F G = record {
    same = λ x y e j q. ap₂ (λ v w. v ⊕ neg w) (F.same x y e j q) (G.same x y e j q);
    zeros = λ j q. ap₂ (λ v w. v ⊕ neg w) (F.zeros j q) (G.zeros j q) ∙ K.plus_opposite 𝟘;
    mixes = λ c x z j q. ap₂ (λ v w. v ⊕ neg w) (F.mixes c x z j q) (G.mixes c x z j q) ∙ simp (ring, K);
  }

-- a linear map of a combination
module _ {V : Type 0} (K : FiniteField V) {X Y : Type 0} (R : X → Type 0) (P : Y → Type 0) (A : (X → V) → Y → V) (AL : Linear K R P A) where
  pub linear_mix : (n : ℕ) (c : ℕ → V) (xs : ℕ → X → V) (i : Y) → P i → A (mix K n c xs) i ≡ mix K n c (λ j. A (xs j)) i
  linear_mix zero c xs i p = AL.zeros i p
  linear_mix (suc n) c xs i p = AL.same (mix K (suc n) c xs) (λ q. K.plus (K.times (c n) (xs n q)) (mix K n c xs q))
      (λ q r. K.plus_comm (mix K n c xs q) (K.times (c n) (xs n q))) i p ∙ AL.mixes (c n) (xs n) (mix K n c xs) i p
      ∙ ap (λ v. K.plus (K.times (c n) (A (xs n) i)) v) (linear_mix n c xs i p) ∙ K.plus_comm (K.times (c n) (A (xs n) i)) (mix K n c (λ j. A (xs j)) i)
