-- Two linear images of the same vectors, by A and by B, where B is zero wherever A is. Assumes nothing.
use Rattle.std.proofs.Common.{◌≡◌, ℕ, sym, refl, ap, ◌∙◌, ap₂}
use Rattle.field.specs.FiniteField.{FiniteField}
use Rattle.field.proofs.Laws.{ring}
use Rattle.series.specs.Words.{Word, Over, ◌≺◌}
use Rattle.series.specs.Spans.{Span, none, more}
use Rattle.series.specs.Families.{mix}
use Rattle.series.specs.Fresh.{Fresh}
use Rattle.series.proofs.SpanLaws.{span_same, span_more}
use Rattle.series.proofs.LinearMaps.{Linear, linear_mix}

module _ {V : Type 0} (K : FiniteField V) {X Y Z : Type 0} (R : X → Type 0) (P : Y → Type 0) (Q : Z → Type 0) (A : (X → V) → Y → V) (B : (X → V) → Z → V)
    (AL : Linear K R P A) (BL : Linear K R Q B) (kernel : (z : X → V) → ((i : Y) → P i → A z i ≡ K.zero) → (j : Z) → Q j → B z j ≡ K.zero) where
  infixl 65 ◌⊕◌
  infixl 70 ◌⊗◌
  open K use {plus as ◌⊕◌, times as ◌⊗◌, zero as 𝟘, one as 𝟙, opposite as neg}

  -- what A does not tell apart, B does not
  agree : (y z : X → V) → ((i : Y) → P i → A y i ≡ A z i) → (j : Z) → Q j → B y j ≡ B z j
  agree y z e j q = back (B y j) (B z j) (sym (BL.mixes (neg 𝟙) z y j q) ∙ kernel gap (λ i p. AL.mixes (neg 𝟙) z y i p ∙ gone (A y i) (A z i) (e i p)) j q)
    where
      gap : X → V
      gap i = neg 𝟙 ⊗ z i ⊕ y i

      gone : (a b : V) → a ≡ b → neg 𝟙 ⊗ b ⊕ a ≡ 𝟘
      gone a b h = ap (λ v. neg 𝟙 ⊗ b ⊕ v) h ∙ simp (ring, K)

      back : (a b : V) → neg 𝟙 ⊗ b ⊕ a ≡ 𝟘 → a ≡ b
      back a b h = sym (simp (ring, K)) ∙ ap (λ v. b ⊕ v) h ∙ K.plus_zero b

  module _ {W : Type 0} (S : W → Type 0) (x : W → X → V) where
    ByA : (Y → V) → Type 0
    ByA a = (w : W) × S w × (a ≡ A (x w))

    ByB : (Z → V) → Type 0
    ByB b = (w : W) × S w × (b ≡ B (x w))

    pull : {t : Y → V} → Span K P ByA t → (z : X → V) × Span K Q ByB (B z) × ((i : Y) → P i → t i ≡ A z i)
    unfolding ByA ByB
    pull (none e) = ((λ i. 𝟘), none BL.zeros, λ i p. e i p ∙ sym (AL.zeros i p))
    pull (more c a t m s e) = let r = pull s in (
      (λ i. c ⊗ x m.0 i ⊕ r.0 i),
      more c (B (x m.0)) (B r.0) (m.0, m.1, refl) r.1 (BL.mixes c (x m.0) r.0),
      λ i p. e i p ∙ ap₂ (λ v w. c ⊗ v i ⊕ w) m.2 (r.2 i p) ∙ sym (AL.mixes c (x m.0) r.0 i p),
    )

    -- what is a combination by A is one by B
    transfer : (y : X → V) → Span K P ByA (A y) → Span K Q ByB (B y)
    transfer y s = let r = pull s in span_same K Q (B y) (agree y r.0 r.2) r.1

  -- an equation by A is one by B
  pub mix_transfer : (y : X → V) (n : ℕ) (c : ℕ → V) (xs : ℕ → X → V) → ((i : Y) → P i → A y i ≡ mix K n c (λ m. A (xs m)) i) → (j : Z) → Q j → B y j ≡ mix K n c (λ m. B (xs m)) j
  mix_transfer y n c xs e j q = agree y (mix K n c xs) (λ i p. e i p ∙ sym (linear_mix K R P A AL n c xs i p)) j q ∙ linear_mix K R Q B BL n c xs j q

  -- a word fresh by B is fresh by A
  pub fresh_transfer : (k : ℕ) (x : Word → X → V) (w : Word) → Fresh K Q k (λ u. B (x u)) w → Fresh K P k (λ u. A (x u)) w
  unfolding ByA ByB
  fresh_transfer k x w h =
      (h.0, λ s. h.1 (span_more K Q (λ b m. (m.0, m.1.0, m.1.1, m.2)) (transfer (λ u. (u ≺ w) × Over k u) x (x w) (span_more K P (λ a m. (m.0, (m.1, m.2), m.3)) s))))
