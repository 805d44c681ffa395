-- Laws of combinations. Assumes nothing.
use Rattle.std.proofs.Common.{◌≡◌, sym, refl, ap, ◌∙◌, subst, ap₂}
use Rattle.field.specs.FiniteField.{FiniteField}
use Rattle.field.proofs.Laws.{zero_plus, times_zero, one_times}
use Rattle.series.specs.Spans.{Span, none, more}

module _ {V : Type 0} (K : FiniteField V) {X : Type 0} (P : X → Type 0) where
  infixl 65 ◌⊕◌
  infixl 70 ◌⊗◌
  open K use {plus as ◌⊕◌, times as ◌⊗◌, zero as 𝟘, one as 𝟙}

  pub span_same : {S : (X → V) → Type 0} {y : X → V} (z : X → V) → ((i : X) → P i → z i ≡ y i) → Span K P S y → Span K P S z
  span_same z h (none e) = none (λ i p. h i p ∙ e i p)
  span_same z h (more c x w s t e) = more c x w s t (λ i p. h i p ∙ e i p)

  -- of the same vector
  pub span_is : {S : (X → V) → Type 0} {x y : X → V} → x ≡ y → Span K P S y → Span K P S x
  span_is {S} e s = subst (Span K P S) (sym e) s

  pub span_member : {S : (X → V) → Type 0} {x : X → V} → S x → Span K P S x
  span_member {S} {x} s = more 𝟙 x (λ i. 𝟘) s (none (λ i p. refl)) (λ i p. sym (K.plus_zero (𝟙 ⊗ x i) ∙ one_times K (x i)))

  pub span_plus : {S : (X → V) → Type 0} {y z : X → V} → Span K P S y → Span K P S z → Span K P S (λ i. y i ⊕ z i)
  span_plus {S} {y} {z} (none e) u = span_same (λ i. y i ⊕ z i) (λ i p. ap (λ w. w ⊕ z i) (e i p) ∙ zero_plus K (z i)) u
  span_plus {S} {y} {z} (more c x w s t e) u = more c x (λ i. w i ⊕ z i) s (span_plus t u) (λ i p. ap (λ v. v ⊕ z i) (e i p) ∙ K.plus_assoc (c ⊗ x i) (w i) (z i))

  pub span_times : {S : (X → V) → Type 0} {y : X → V} (b : V) → Span K P S y → Span K P S (λ i. b ⊗ y i)
  span_times b (none e) = none (λ i p. ap (λ w. b ⊗ w) (e i p) ∙ times_zero K b)
  span_times b (more c x w s t e) = more (b ⊗ c) x (λ i. b ⊗ w i) s (span_times b t)
      (λ i p. ap (λ v. b ⊗ v) (e i p) ∙ K.times_plus b (c ⊗ x i) (w i) ∙ ap (λ v. v ⊕ b ⊗ w i) (sym (K.times_assoc b c (x i))))

  -- what S has are combinations of T's
  pub span_span : {S T : (X → V) → Type 0} {y : X → V} → ((x : X → V) → S x → Span K P T x) → Span K P S y → Span K P T y
  span_span h (none e) = none e
  span_span {S} {T} {y} h (more c x w s t e) = span_same y e (span_plus (span_times c (h x s)) (span_span h t))

  pub span_more : {S T : (X → V) → Type 0} {y : X → V} → ((x : X → V) → S x → T x) → Span K P S y → Span K P T y
  span_more h t = span_span (λ x s. span_member (h x s)) t

  -- what S has is zero at a place, and so a combination is
  pub span_zero : {S : (X → V) → Type 0} {y : X → V} (q : X) → P q → ((x : X → V) → S x → x q ≡ 𝟘) → Span K P S y → y q ≡ 𝟘
  span_zero q p h (none e) = e q p
  span_zero q p h (more c x w s t e) = e q p ∙ ap₂ ◌⊕◌ (ap (λ v. c ⊗ v) (h x s) ∙ times_zero K c) (span_zero q p h t) ∙ K.plus_zero 𝟘

-- fewer places
module _ {V : Type 0} (K : FiniteField V) {X : Type 0} where
  infixl 65 ◌⊕◌
  infixl 70 ◌⊗◌
  open K use {plus as ◌⊕◌, times as ◌⊗◌, zero as 𝟘, one as 𝟙}

  pub span_fewer : {P Q : X → Type 0} {S : (X → V) → Type 0} {y : X → V} → ((i : X) → Q i → P i) → Span K P S y → Span K Q S y
  span_fewer h (none e) = none (λ i q. e i (h i q))
  span_fewer h (more c x w s t e) = more c x w s (span_fewer h t) (λ i q. e i (h i q))

  -- a combination everywhere that agrees at the places
  pub span_exact : {P : X → Type 0} {S : (X → V) → Type 0} {y : X → V} → Span K P S y → (z : X → V) × Span K (λ i. Unit {0}) S z × ((i : X) → P i → y i ≡ z i)
  span_exact (none e) = ((λ i. 𝟘), none (λ i p. refl), e)
  span_exact (more c x w s t e) = let r = span_exact t in ((λ i. c ⊗ x i ⊕ r.0 i), more c x r.0 s r.1 (λ i p. refl), (λ i p. e i p ∙ ap (λ v. c ⊗ x i ⊕ v) (r.2 i p)))
