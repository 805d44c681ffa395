-- Elimination: a list of more vectors than places is dependent, and whether a vector is a combination of a list's is decided. Assumes nothing.
use Rattle.std.proofs.Common.{◌≡◌, ℕ, suc, ◌<◌, ◌≢◌, ◌⊎◌, List, [], ◌∷◌, length, sym, refl, ap, ◌∙◌, ap₂, inl, inr, arith}
use Rattle.field.specs.FiniteField.{FiniteField}
use Rattle.field.proofs.Laws.{same?, zero_plus, zero_times, one_times, neg_times, neg_zero, ring}
use Rattle.series.specs.Spans.{Span, none}
use Rattle.series.proofs.Lists.{Among}
use Rattle.series.proofs.Places.{range, range_length, range_has}
use Rattle.series.proofs.SpanLaws.{span_same, span_is, span_member, span_plus, span_times, span_span, span_more, span_zero, span_fewer, span_exact}
use Rattle.series.proofs.LinearMaps.{Linear, span_through}

-- some vector of the list is a combination of those behind it
abbrev pub DependentList : {V : Type 0} (K : FiniteField V) {X : Type 0} → (X → Type 0) → List (X → V) → Type 0
DependentList K P [] = ⊥
DependentList K P (x ∷ xs) = Span K P (Among xs) x ⊎ DependentList K P xs

module _ {V : Type 0} (K : FiniteField V) {X : Type 0} where
  infixl 65 ◌⊕◌
  infixl 70 ◌⊗◌
  open K use {plus as ◌⊕◌, times as ◌⊗◌, zero as 𝟘, one as 𝟙, opposite as neg, inverse as inv}

  -- x without its part at the place q, taken out by multiples of p
  factor : (X → V) → X → (X → V) → V
  factor p q x = neg (x q ⊗ inv (p q))

  abbrev cut : (X → V) → X → (X → V) → X → V
  cut p q x i = x i ⊕ factor p q x ⊗ p i

  cut_zero : (p : X → V) (q : X) (x : X → V) → p q ≢ 𝟘 → cut p q x q ≡ 𝟘
  unfolding factor
  cut_zero p q x u = ap (λ v. x q ⊕ v) (neg_times K (x q ⊗ inv (p q)) (p q)
      ∙ ap neg (K.times_assoc (x q) (inv (p q)) (p q) ∙ ap (λ v. x q ⊗ v) (K.times_comm (inv (p q)) (p q) ∙ K.times_inverse (p q) u) ∙ K.times_one (x q)))
      ∙ K.plus_opposite (x q)

  cut_self : (p : X → V) (q : X) → p q ≢ 𝟘 → (i : X) → cut p q p i ≡ 𝟘
  unfolding factor
  cut_self p q u i = ap (λ v. p i ⊕ neg v ⊗ p i) (K.times_inverse (p q) u) ∙ ap (λ v. p i ⊕ v) (neg_times K 𝟙 (p i) ∙ ap neg (one_times K (p i))) ∙ K.plus_opposite (p i)

  cut_none : (p : X → V) (q : X) (x : X → V) → x q ≡ 𝟘 → (i : X) → cut p q x i ≡ x i
  unfolding factor
  cut_none p q x e i = ap (λ v. x i ⊕ v ⊗ p i) (ap (λ v. neg (v ⊗ inv (p q))) e ∙ ap neg (zero_times K (inv (p q))) ∙ neg_zero K) ∙ ap (λ v. x i ⊕ v) (zero_times K (p i)) ∙ K.plus_zero (x i)

  module _ (P : X → Type 0) {S : (X → V) → Type 0} where
    -- x from its rest, and the rest from x
    cut_in : (p : X → V) (q : X) (x : X → V) → Span K P S p → Span K P S x → Span K P S (cut p q x)
    cut_in p q x s t = span_plus K P t (span_times K P (factor p q x) s)

    cut_out : (p : X → V) (q : X) (x : X → V) → Span K P S p → Span K P S (cut p q x) → Span K P S x
    cut_out p q x s t = span_same K P x (λ i h. sym (back i)) (span_plus K P t (span_times K P (neg (factor p q x)) s))
      where
        back : (i : X) → cut p q x i ⊕ neg (factor p q x) ⊗ p i ≡ x i
        back i = simp (ring, K)

  cut_linear : (P : X → Type 0) (p : X → V) (q : X) → P q → Linear K P P (cut p q)
  unfolding factor
  cut_linear P p q h = record {
    same = λ x y e j k. ap₂ (λ v w. v ⊕ neg (w ⊗ inv (p q)) ⊗ p j) (e j k) (e q h);
    zeros = λ j k. zero_plus K (factor p q (λ i. 𝟘) ⊗ p j) ∙ ap (λ v. neg v ⊗ p j) (zero_times K (inv (p q))) ∙ ap (λ v. v ⊗ p j) (neg_zero K) ∙ zero_times K (p j);
    mixes = λ c x z j k. simp (ring, K);
  }

  record Pivoted (P : X → Type 0) (q : X) (xs : List (X → V)) : Type 0 where
    pivot : X → V
    rest : List (X → V)
    fits : suc (length rest) ≡ length xs
    apart : pivot q ≢ 𝟘
    from : Span K P (Among xs) pivot
    clear : (x : X → V) → Among rest x → x q ≡ 𝟘
    inside : (x : X → V) → Among rest x → Span K P (Among xs) x
    reduced : (x : X → V) → Among xs x → Span K P (Among rest) (cut pivot q x)
    dependent : DependentList K P rest → DependentList K P xs

  abbrev Found : (P : X → Type 0) (q : X) (xs : List (X → V)) → Type 0
  Found P q xs = ((x : X → V) → Among xs x → x q ≡ 𝟘) ⊎ Pivoted P q xs

  -- no vector behind x has anything at q
  first : (P : X → Type 0) (q : X) (x : X → V) (xs : List (X → V)) → ((y : X → V) → Among xs y → y q ≡ 𝟘) → Dec (x q ≡ 𝟘) → Found P q (x ∷ xs)
  first P q x xs z (yes e) = inl (λ y. elim [ inl s ↦ ap (λ v. v q) s ∙ e | inr a ↦ z y a ])
  first P q x xs z (no u) = inr (record {
    pivot = x;
    rest = xs;
    fits = refl;
    apart = u;
    from = span_member K P (inl refl);
    clear = z;
    inside = λ y a. span_member K P (inr a);
    reduced = λ y. elim [ inl s ↦ none (λ i h. ap (λ v. cut x q v i) s ∙ cut_self x q u i) | inr a ↦ span_same K P (cut x q y) (λ i h. cut_none x q y (z y a) i) (span_member K P a) ];
    dependent = inr;
  })

  -- a pivot behind x
  later : (P : X → Type 0) (q : X) (x : X → V) (xs : List (X → V)) → Pivoted P q xs → Pivoted P q (x ∷ xs)
  later P q x xs r = record {
    pivot = r.pivot;
    rest = cut r.pivot q x ∷ r.rest;
    fits = ap suc r.fits;
    apart = r.apart;
    from = from';
    clear = λ y. elim [ inl s ↦ ap (λ v. v q) s ∙ cut_zero r.pivot q x r.apart | inr a ↦ r.clear y a ];
    inside = λ y. elim [ inl s ↦ span_is K P s (cut_in P r.pivot q x from' (span_member K P (inl refl))) | inr a ↦ span_more K P (λ z b. inr b) (r.inside y a) ];
    reduced = λ y. elim [ inl s ↦ span_member K P (inl (ap (cut r.pivot q) s)) | inr a ↦ span_more K P (λ z b. inr b) (r.reduced y a) ];
    dependent = elim [ inl s ↦ inl (cut_out P r.pivot q x r.from (span_span K P r.inside s)) | inr d ↦ inr (r.dependent d) ];
  }
    where
      from' : Span K P (Among (x ∷ xs)) r.pivot
      from' = span_more K P (λ z b. inr b) r.from

  pivots : (P : X → Type 0) (q : X) (xs : List (X → V)) → Found P q xs
  pivots P q [] = inl (λ x. elim [ ])
  pivots P q (x ∷ xs) = go (pivots P q xs)
    where
      go : Found P q xs → Found P q (x ∷ xs)
      go (inl z) = first P q x xs z (same? K (x q) 𝟘)
      go (inr r) = inr (later P q x xs r)

  -- one place more, at which nothing is
  span_place : {S : (X → V) → Type 0} (q : X) (qs : List X) (y : X → V) → ((x : X → V) → S x → x q ≡ 𝟘) → y q ≡ 𝟘 → Span K (Among qs) S y → Span K (Among (q ∷ qs)) S y
  span_place {S} q qs y z e t = span_same K (Among (q ∷ qs)) y at (span_fewer K (λ i p. tt) r.1)
    where
      r : (w : X → V) × Span K (λ i. Unit {0}) S w × ((i : X) → Among qs i → y i ≡ w i)
      r = span_exact K t

      there : y q ≡ r.0 q
      there = e ∙ sym (span_zero K (λ i. Unit {0}) q tt z r.1)

      at : (i : X) → Among (q ∷ qs) i → y i ≡ r.0 i
      at i (inl s) = ap y s ∙ there ∙ ap r.0 (sym s)
      at i (inr a) = r.2 i a

  dependent_place : (q : X) (qs : List X) (xs : List (X → V)) → ((x : X → V) → Among xs x → x q ≡ 𝟘) → DependentList K (Among qs) xs → DependentList K (Among (q ∷ qs)) xs
  dependent_place q qs [] z d = d
  dependent_place q qs (x ∷ xs) z (inl s) = inl (span_place q qs x (λ y a. z y (inr a)) (z x (inl refl)) s)
  dependent_place q qs (x ∷ xs) z (inr d) = inr (dependent_place q qs xs (λ y a. z y (inr a)) d)

  -- more vectors than places
  pub too_many : (qs : List X) (xs : List (X → V)) → length qs < length xs → DependentList K (Among qs) xs
  too_many [] [] l = absurd (omega arith)
  too_many [] (x ∷ xs) l = inl (none (λ i. elim [ ]))
  too_many (q ∷ qs) xs l = go (pivots (Among (q ∷ qs)) q xs) (λ zs. too_many qs zs)
    where
      go : Found (Among (q ∷ qs)) q xs → ((zs : List (X → V)) → length qs < length zs → DependentList K (Among qs) zs) → DependentList K (Among (q ∷ qs)) xs
      go (inl z) before = dependent_place q qs xs z (before xs (omega arith))
      go (inr r) before = r.dependent (dependent_place q qs r.rest r.clear (before r.rest (omega (arith, r.fits))))

  pub decide_span : (qs : List X) (xs : List (X → V)) (y : X → V) → Dec (Span K (Among qs) (Among xs) y)
  decide_span [] xs y = yes (none (λ i. elim [ ]))
  decide_span (q ∷ qs) xs y = go (pivots (Among (q ∷ qs)) q xs) (λ zs z. decide_span qs zs z)
    where
      clean : ((x : X → V) → Among xs x → x q ≡ 𝟘) → Dec (y q ≡ 𝟘) → Dec (Span K (Among qs) (Among xs) y) → Dec (Span K (Among (q ∷ qs)) (Among xs) y)
      clean z (no u) d = no (λ s. u (span_zero K (Among (q ∷ qs)) q (inl refl) z s))
      clean z (yes e) (yes s) = yes (span_place q qs y z e s)
      clean z (yes e) (no u) = no (λ s. u (span_fewer K (λ i a. inr a) s))

      by : (r : Pivoted (Among (q ∷ qs)) q xs) → Dec (Span K (Among qs) (Among r.rest) (cut r.pivot q y)) → Dec (Span K (Among (q ∷ qs)) (Among xs) y)
      by r (yes s) = yes (cut_out (Among (q ∷ qs)) r.pivot q y r.from
          (span_span K (Among (q ∷ qs)) r.inside (span_place q qs (cut r.pivot q y) r.clear (cut_zero r.pivot q y r.apart) s)))
      by r (no u) = no (λ s. u (span_fewer K (λ i a. inr a)
          (span_through K (cut r.pivot q) (cut_linear (Among (q ∷ qs)) r.pivot q (inl refl)) r.reduced s)))

      go : Found (Among (q ∷ qs)) q xs → ((zs : List (X → V)) (z : X → V) → Dec (Span K (Among qs) (Among zs) z)) → Dec (Span K (Among (q ∷ qs)) (Among xs) y)
      go (inl z) before = clean z (same? K (y q) 𝟘) (before xs y)
      go (inr r) before = by r (before r.rest (cut r.pivot q y))

module _ {V : Type 0} (K : FiniteField V) where
  below_dependent : (n : ℕ) (xs : List (ℕ → V)) → DependentList K (Among (range n)) xs → DependentList K (λ i. i < n) xs
  below_dependent n [] d = d
  below_dependent n (x ∷ xs) (inl s) = inl (span_fewer K (range_has n) s)
  below_dependent n (x ∷ xs) (inr d) = inr (below_dependent n xs d)

  -- more rows than places
  pub rows_dependent : (n : ℕ) (xs : List (ℕ → V)) → n < length xs → DependentList K (λ i. i < n) xs
  rows_dependent n xs l = below_dependent n xs (too_many K (range n) xs (rw range_length l))
