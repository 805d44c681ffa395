-- Combinations by coefficients. Assumes nothing.
use Rattle.std.proofs.Common.{◌≡◌, ℕ, zero, suc, ◌<◌, ◌≤◌, ◌≢◌, map, sym, refl, ap, ◌∙◌, subst, ap₂, inl, inr, arith}
use native.Mathlib.Decide.{dec_lt, ℕ_discrete, map_dec}
use lib.ListN.{length-map}
use Rattle.field.proofs.Laws.{same?, zero_times, one_times, plus_times, plus_cancel, ring}
use Rattle.field.specs.FiniteField.{FiniteField}
use Rattle.series.specs.Spans.{Span, none, more}
use Rattle.series.specs.Families.{Of, mix, Dependent, Independent}
use Rattle.series.proofs.Lists.{Among, among_map, among_map_back}
use Rattle.series.proofs.Elimination.{DependentList, decide_span, rows_dependent}
use Rattle.series.proofs.Differences.{minus_zero}
use Rattle.field.proofs.Rows.{sum_same}
use Rattle.series.proofs.SumLaws.{sum_zero, sum_plus, sum_times, sum_one}
use Rattle.series.proofs.SpanLaws.{span_same, span_more, span_fewer}
use Rattle.series.proofs.Places.{range, range_has, range_are, range_length}

module _ {V : Type 0} (K : FiniteField V) {X : Type 0} (P : X → Type 0) where
  infixl 65 ◌⊕◌
  infixl 70 ◌⊗◌
  open K use {plus as ◌⊕◌, times as ◌⊗◌, zero as 𝟘, one as 𝟙, opposite as neg, inverse as inv}

  pub mix_span : (n : ℕ) (c : ℕ → V) (xs : ℕ → X → V) → Span K P (Of n xs) (mix K n c xs)
  mix_span zero c xs = none (λ i p. refl)
  mix_span (suc n) c xs = more (c n) (xs n) (mix K n c xs) (n, omega arith, refl) (span_more K P (λ x m. (m.0, omega arith, m.2)) (mix_span n c xs))
      (λ i p. K.plus_comm (mix K n c xs i) (c n ⊗ xs n i))

  abbrev at_only : (j m : ℕ) → Dec (m ≡ j) → V → V
  at_only j m (yes e) b = b
  at_only j m (no u) b = 𝟘

  at_there : (j : ℕ) (d : Dec (j ≡ j)) (b : V) → at_only j j d b ≡ b
  at_there j (yes e) b = refl
  at_there j (no u) b = absurd (u refl)

  at_elsewhere : (j m : ℕ) (d : Dec (m ≡ j)) (b : V) → m ≢ j → at_only j m d b ≡ 𝟘
  at_elsewhere j m (yes e) b u = absurd (u e)
  at_elsewhere j m (no v) b u = refl

  -- the coefficients of a combination
  pub span_mix : (n : ℕ) (xs : ℕ → X → V) {y : X → V} → Span K P (Of n xs) y → (c : ℕ → V) × ((i : X) → P i → y i ≡ mix K n c xs i)
  span_mix n xs (none e) = ((λ j. 𝟘), λ i p. e i p ∙ sym (sum_zero K n (λ j. 𝟘 ⊗ xs j i) (λ j l. zero_times K (xs j i))))
  span_mix n xs {y} (more b x z m t e) = go (span_mix n xs t)
    where
      j : ℕ
      j = m.0

      only : ℕ → V
      only a = at_only j a (ℕ_discrete a j) b

      alone : (i : X) → mix K n only xs i ≡ b ⊗ x i
      alone i = sum_one K n j (λ a. only a ⊗ xs a i) m.1 (λ a l u. ap (λ v. v ⊗ xs a i) (at_elsewhere j a (ℕ_discrete a j) b u) ∙ zero_times K (xs a i))
          ∙ ap₂ (λ v w. v ⊗ w i) (at_there j (ℕ_discrete j j) b) (sym m.2)

      go : (c : ℕ → V) × ((i : X) → P i → z i ≡ mix K n c xs i) → (c : ℕ → V) × ((i : X) → P i → y i ≡ mix K n c xs i)
      go r = (
        (λ a. only a ⊕ r.0 a),
        λ i p. e i p ∙ ap₂ ◌⊕◌ (sym (alone i)) (r.1 i p)
            ∙ sym (sum_same K n (λ a. (only a ⊕ r.0 a) ⊗ xs a i) (λ a. only a ⊗ xs a i ⊕ r.0 a ⊗ xs a i) (λ a l. plus_times K (only a) (r.0 a) (xs a i))
            ∙ sum_plus K n (λ a. only a ⊗ xs a i) (λ a. r.0 a ⊗ xs a i)),
      )

  -- if c n is not d n, the vector n is a combination of those before it
  solved : (n : ℕ) (xs : ℕ → X → V) (c d : ℕ → V) (i : X) → c n ⊕ neg (d n) ≢ 𝟘 → mix K (suc n) c xs i ≡ mix K (suc n) d xs i → xs n i ≡ mix K n (λ j. inv (c n ⊕ neg (d n)) ⊗ (d j ⊕ neg (c j))) xs i
  solved n xs c d i u e = sym (sums ∙ ap (λ v. b ⊗ v) turned ∙ sym (K.times_assoc b (c n ⊕ neg (d n)) (xs n i))
      ∙ ap (λ v. v ⊗ xs n i) (K.times_comm b (c n ⊕ neg (d n)) ∙ K.times_inverse (c n ⊕ neg (d n)) u) ∙ one_times K (xs n i))
    where
      b : V
      b = inv (c n ⊕ neg (d n))

      -- A + cn x = D + dn x gives D - A = (cn - dn) x
      move_over : (A D p q : V) → A ⊕ p ≡ D ⊕ q → D ⊕ neg A ≡ p ⊕ neg q
      move_over A D p q h =
          let left : D ⊕ neg A ≡ (D ⊕ q) ⊕ (neg q ⊕ neg A) = simp (ring, K) in
          let right : (A ⊕ p) ⊕ (neg q ⊕ neg A) ≡ p ⊕ neg q = simp (ring, K) in
          left ∙ ap (λ v. v ⊕ (neg q ⊕ neg A)) (sym h) ∙ right

      turned : mix K n d xs i ⊕ neg (mix K n c xs i) ≡ (c n ⊕ neg (d n)) ⊗ xs n i
      turned = move_over (mix K n c xs i) (mix K n d xs i) (c n ⊗ xs n i) (d n ⊗ xs n i) e ∙ simp (ring, K)

      minus : mix K n (λ j. neg 𝟙 ⊗ c j) xs i ≡ neg (mix K n c xs i)
      minus = sum_same K n (λ j. neg 𝟙 ⊗ c j ⊗ xs j i) (λ j. neg 𝟙 ⊗ (c j ⊗ xs j i)) (λ j l. K.times_assoc (neg 𝟙) (c j) (xs j i)) ∙ sum_times K n (neg 𝟙) (λ j. c j ⊗ xs j i) ∙ simp (ring, K)

      sums : mix K n (λ j. b ⊗ (d j ⊕ neg (c j))) xs i ≡ b ⊗ (mix K n d xs i ⊕ neg (mix K n c xs i))
      sums = sum_same K n (λ j. b ⊗ (d j ⊕ neg (c j)) ⊗ xs j i) (λ j. b ⊗ (d j ⊗ xs j i ⊕ neg 𝟙 ⊗ c j ⊗ xs j i)) (λ j l. simp (ring, K))
          ∙ sum_times K n b (λ j. d j ⊗ xs j i ⊕ neg 𝟙 ⊗ c j ⊗ xs j i)
          ∙ ap (λ v. b ⊗ v) (sum_plus K n (λ j. d j ⊗ xs j i) (λ j. neg 𝟙 ⊗ c j ⊗ xs j i) ∙ ap (λ v. mix K n d xs i ⊕ v) minus)

  -- independent vectors have one combination only for each vector
  pub mix_unique : (n : ℕ) (xs : ℕ → X → V) → Independent K P n xs → (c d : ℕ → V) → ((i : X) → P i → mix K n c xs i ≡ mix K n d xs i) → (j : ℕ) → j < n → c j ≡ d j
  mix_unique zero xs h c d e j l = absurd (omega arith)
  mix_unique (suc n) xs h c d e j l = go (same? K (c n ⊕ neg (d n)) 𝟘) (ℕ_discrete j n) (λ f b. mix_unique n xs (λ m q. h m (omega arith)) c d f j b)
    where
      go : Dec (c n ⊕ neg (d n) ≡ 𝟘) → Dec (j ≡ n) → (((i : X) → P i → mix K n c xs i ≡ mix K n d xs i) → j < n → c j ≡ d j) → c j ≡ d j
      go (no u) q before = absurd (h n (omega arith) (span_same K P (xs n) (λ i p. solved n xs c d i u (e i p)) (mix_span n (λ m. inv (c n ⊕ neg (d n)) ⊗ (d m ⊕ neg (c m))) xs)))
      go (yes s) (yes q) before = ap c q ∙ minus_zero K (c n) (d n) s ∙ ap d (sym q)
      go (yes s) (no q) before = before (λ i p. plus_cancel K (c n ⊗ xs n i) (mix K n c xs i) (mix K n d xs i)
          (K.plus_comm (c n ⊗ xs n i) (mix K n c xs i) ∙ e i p ∙ ap (λ v. mix K n d xs i ⊕ v ⊗ xs n i) (sym (minus_zero K (c n) (d n) s))
          ∙ K.plus_comm (mix K n d xs i) (c n ⊗ xs n i))) (omega arith)

  -- one vector alone
  pub mix_one : (n : ℕ) (xs : ℕ → X → V) (c : ℕ → V) (m : ℕ) → m < n → c m ≡ 𝟙 → ((j : ℕ) → j < n → j ≢ m → c j ≡ 𝟘) → (q : X) → mix K n c xs q ≡ xs m q
  mix_one n xs c m l e z q = sum_one K n m (λ j. c j ⊗ xs j q) l (λ j b u. ap (λ v. v ⊗ xs j q) (z j b u) ∙ zero_times K (xs j q)) ∙ ap (λ v. v ⊗ xs m q) e ∙ one_times K (xs m q)

  listed_dependent : (xs : ℕ → X → V) (n : ℕ) → DependentList K P (map xs (range n)) → Dependent K P n xs
  unfolding range
  listed_dependent xs zero d = absurd d
  listed_dependent xs (suc n) (inl s) = (n, omega arith, span_more K P (λ x m. let r = among_map_back xs (range n) x m in (r.0, range_are n r.0 r.1, r.2)) s)
  listed_dependent xs (suc n) (inr d) = let r = listed_dependent xs n d in (r.0, omega arith, r.2)

module _ {V : Type 0} (K : FiniteField V) where
  -- more vectors than places are dependent
  pub more_dependent : (d n : ℕ) (xs : ℕ → ℕ → V) → d < n → Dependent K (λ i. i < d) n xs
  more_dependent d n xs l = listed_dependent K (λ i. i < d) xs n (rows_dependent K d (map xs (range n)) (simp (length-map, range_length) l))

  pub independent_few : (d n : ℕ) (xs : ℕ → ℕ → V) → Independent K (λ i. i < d) n xs → n ≤ d
  independent_few d n xs h = go (dec_lt d n)
    where
      go : Dec (d < n) → n ≤ d
      go (no u) = omega arith
      go (yes l) = let r = more_dependent d n xs l in absurd (h r.0 r.1 r.2)

  -- whether a vector is a combination of finitely many is decided
  pub combination? : (d n : ℕ) (xs : ℕ → ℕ → V) (y : ℕ → V) → Dec (Span K (λ i. i < d) (Of n xs) y)
  combination? d n xs y =
      map_dec
      (λ s. span_fewer K (range_has d) (span_more K (Among (range d)) (λ x m. let r = among_map_back xs (range n) x m in (r.0, range_are n r.0 r.1, r.2)) s))
      (λ s. span_fewer K (range_are d) (span_more K (λ i. i < d) (λ x m. subst (Among (map xs (range n))) (sym m.2) (among_map xs (range n) m.0 (range_has n m.0 m.1))) s))
      (decide_span K (range d) (map xs (range n)) y)
