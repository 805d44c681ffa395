-- Fresh words. Assumes nothing.
use Rattle.std.proofs.Common.{◌≡◌, ℕ, suc, ◌<◌, ◌≤◌, ◌≢◌, ◌⊎◌, List, [], ◌∷◌, ◌++◌, map, length, take, drop, sym, refl, ap, ◌∙◌, subst, inl, inr, append_assoc, append-nil, arith}
use Rattle.std.proofs.lemmas.List.{length-take-le, take-append-drop}
use mathlib.Core.Logic.Dec.{and as both, not as other, not-not}
use native.Mathlib.Decide.{map_dec}
use Rattle.field.specs.FiniteField.{FiniteField}
use Rattle.field.proofs.Laws.{same?}
use Rattle.series.specs.Spans.{Span}
use Rattle.series.specs.Words.{Word, Over, ◌≺◌}
use Rattle.series.specs.Listing.{Listed, Count}
use Rattle.series.specs.Families.{Of, Independent}
use Rattle.series.specs.Fresh.{Earlier, Fresh}
use Rattle.series.proofs.Words.{over_append, over_prefix, over_rest, over_decide}
use Rattle.series.proofs.Lists.{Among, among_map, among_map_back}
use Rattle.series.proofs.Orders.{≺-push, ≺-shorter, ≺-transitive, ≺-compare, ≺-induction, same_before, upto_before}
use Rattle.series.proofs.WordLists.{smaller, smaller_has, smaller_are, least, upto, upto_has, listed_decidable}
use Rattle.series.proofs.SpanLaws.{span_same, span_is, span_member, span_span, span_more, span_fewer}
use Rattle.series.proofs.LinearMaps.{Linear, span_through, span_gone}
use Rattle.series.proofs.Places.{range, range_has, range_are}
use Rattle.series.proofs.Elimination.{decide_span}
use Rattle.series.proofs.Families.{independent_few}

-- the same vectors at the places
module _ {V : Type 0} (K : FiniteField V) {X : Type 0} (P : X → Type 0) (k : ℕ) (x y : Word → X → V) (same : (w : Word) → Over k w → (i : X) → P i → x w i ≡ y w i) where
  pub fresh_alike : (w : Word) → Fresh K P k x w → Fresh K P k y w
  fresh_alike w h = (
    h.0,
    λ s. h.1 (span_same K P (x w) (same w h.0)
        (span_span K P (λ z m. span_same K P z (λ i p. ap (λ v. v i) m.3 ∙ sym (same m.0 m.2 i p)) (span_member K P (m.0, m.1, m.2, refl))) s)),
  )

module _ {V : Type 0} (K : FiniteField V) {X : Type 0} (P : X → Type 0) (k : ℕ) (vector : Word → X → V) where
  open K use {zero as 𝟘}

  -- the vectors of the fresh words up to w, and of those before w
  abbrev pub FreshUpto : Word → (X → V) → Type 0
  FreshUpto w x = (u : Word) × Fresh K P k vector u × ((u ≡ w) ⊎ (u ≺ w)) × (x ≡ vector u)

  abbrev pub EarlierFresh : Word → (X → V) → Type 0
  EarlierFresh w x = (u : Word) × (u ≺ w) × Fresh K P k vector u × (x ≡ vector u)

  -- the vectors of fresh words in order are independent
  pub fresh_independent : (n : ℕ) (words : ℕ → Word) → ((i j : ℕ) → i < j → j < n → words i ≺ words j) → ((i : ℕ) → i < n → Fresh K P k vector (words i)) → Independent K P n (λ i. vector (words i))
  fresh_independent n words ascends fresh j l s = (fresh j l).1 (span_more K P (λ x m. (words m.0, ascends m.0 j m.1 l, (fresh m.0 (omega (arith, m.1))).0, m.2)) s)

  -- the places are finitely many
  module _ (qs : List X) (to : (i : X) → P i → Among qs i) (of : (i : X) → Among qs i → P i) where
    pub decide_earlier : (w : Word) → Dec (Span K P (Earlier k vector w) (vector w))
    decide_earlier w =
        map_dec
        (λ s. span_more K P (λ x m. let r = among_map_back vector (smaller k w) x m in let q = smaller_are k r.0 w r.1 in (r.0, q.0, q.1, r.2)) (span_fewer K to s))
        (λ s. span_fewer K of (span_more K P (λ x m. subst (Among (map vector (smaller k w))) (sym m.3) (among_map vector (smaller k w) m.0 (smaller_has k m.0 w m.2 m.1))) s))
        (decide_span K qs (map vector (smaller k w)) (vector w))

    -- every word's vector is a combination of those of fresh words up to it
    pub fresh_span : (w : Word) → Over k w → Span K P (FreshUpto w) (vector w)
    fresh_span = ≺-induction (λ w. Over k w → Span K P (FreshUpto w) (vector w)) (λ w before o. go w before o (decide_earlier w))
      where
        wider : (u w : Word) → u ≺ w → (x : X → V) → FreshUpto u x → FreshUpto w x
        wider u w l x m = (m.0, m.1, inr (upto_before m.0 u w m.2 l), m.3)

        go : (w : Word) → ((u : Word) → u ≺ w → Over k u → Span K P (FreshUpto u) (vector u)) → Over k w → Dec (Span K P (Earlier k vector w) (vector w))
            → Span K P (FreshUpto w) (vector w)
        go w before o (no u) = span_member K P (w, (o, u), inl refl, refl)
        go w before o (yes s) = span_span K P (λ x m. span_is K P m.3 (span_more K P (wider m.0 w m.1) (before m.0 m.1 m.2))) s

    -- a combination of earlier words' vectors is one of earlier fresh words' vectors
    pub earlier_fresh : (w : Word) {y : X → V} → Span K P (Earlier k vector w) y → Span K P (EarlierFresh w) y
    earlier_fresh w s = span_span K P (λ x m. span_is K P m.3 (span_more K P (wider m.0 m.1) (fresh_span m.0 m.2))) s
      where
        wider : (u : Word) → u ≺ w → (x : X → V) → FreshUpto u x → EarlierFresh w x
        wider u l x m = (m.0, upto_before m.0 u w m.2 l, m.1, m.3)

  -- a letter more acts linearly
  module _ (step : ℕ → (X → V) → X → V) (linear : (a : ℕ) → Over k (a ∷ []) → Linear K P P (step a)) (next : (w : Word) (a : ℕ) (i : X) → P i → vector (w ++ a ∷ []) i ≡ step a (vector w) i) where
    pub passes : (w : Word) (a : ℕ) → Over k (a ∷ []) → Span K P (Earlier k vector w) (vector w) → Span K P (Earlier k vector (w ++ a ∷ [])) (vector (w ++ a ∷ []))
    passes w a o s = span_same K P (vector (w ++ a ∷ [])) (next w a) (span_through K (step a) (linear a o) one s)
      where
        one : (x : X → V) → Earlier k vector w x → Span K P (Earlier k vector (w ++ a ∷ [])) (step a x)
        one x m = span_same K P (step a x) (λ i h. ap (λ v. step a v i) m.3 ∙ sym (next m.0 a i h))
            (span_member K P (m.0 ++ a ∷ [], ≺-push m.0 w a a m.1, over_append k m.0 (a ∷ []) m.2 o, refl))

    passes_on : (v w : Word) → Over k v → Span K P (Earlier k vector w) (vector w) → Span K P (Earlier k vector (w ++ v)) (vector (w ++ v))
    passes_on [] w o s = rw append-nil s
    passes_on (a ∷ v) w o s = rw (append_assoc w (a ∷ []) v) at (passes_on v (w ++ a ∷ []) o.2 (passes w a (o.0, o.1, tt) s))

    -- a prefix of a fresh word is fresh
    pub fresh_prefix : (w v : Word) → Fresh K P k vector (w ++ v) → Fresh K P k vector w
    fresh_prefix w v h = (over_prefix k w v h.0, λ s. h.1 (passes_on v w (over_rest k w v h.0) s))

  -- a linear test φ of the vectors
  module _ (φ : (X → V) → Unit {0} → V) (linear : Linear K P (λ i. Unit {0}) φ) where
    pub vanishes : {S : (X → V) → Type 0} {y : X → V} → ((x : X → V) → S x → φ x tt ≡ 𝟘) → Span K P S y → φ y tt ≡ 𝟘
    vanishes = span_gone K φ linear tt tt

    -- the least word that fails the test is fresh
    pub least_fresh : (w : Word) → Over k w → φ (vector w) tt ≢ 𝟘 → ((u : Word) → u ≺ w → Over k u → φ (vector u) tt ≡ 𝟘) → Fresh K P k vector w
    least_fresh w o f before = (o, λ s. f (vanishes (λ x m. ap (λ v. φ v tt) m.3 ∙ before m.0 m.1 m.2) s))

    -- a word that fails the test gives the least one
    not_fails : (w : Word) → ¬ (φ (vector w) tt ≢ 𝟘) → φ (vector w) tt ≡ 𝟘
    not_fails w = (not-not (same? K (φ (vector w) tt) 𝟘)).0

    pub least_failing : (w : Word) → Over k w → φ (vector w) tt ≢ 𝟘 → (v : Word) × Fresh K P k vector v × (φ (vector v) tt ≢ 𝟘) × ((u : Word) → u ≺ v → Over k u → φ (vector u) tt ≡ 𝟘)
    least_failing w o f = (r.0, least_fresh r.0 r.1 r.2 before, r.2, before)
      where
        r : (v : Word) × Over k v × (φ (vector v) tt ≢ 𝟘) × ((u : Word) → u ≺ v → Over k u → ¬ (φ (vector u) tt ≢ 𝟘))
        r = least k (λ u. φ (vector u) tt ≢ 𝟘) (λ u. other (same? K (φ (vector u) tt) 𝟘)) w o f

        before : (u : Word) → u ≺ r.0 → Over k u → φ (vector u) tt ≡ 𝟘
        before u l p = not_fails u (r.3 u l p)

    -- if every fresh word passes the test, every word does
    pub fresh_suffice : ((w : Word) → Fresh K P k vector w → φ (vector w) tt ≡ 𝟘) → (w : Word) → Over k w → φ (vector w) tt ≡ 𝟘
    fresh_suffice h w o = not_fails w (λ f. let r = least_failing w o f in r.2 (h r.0 r.1))

    -- if every fresh word before x passes the test, every word before x does
    pub fresh_suffice_before : (x : Word) → ((w : Word) → Fresh K P k vector w → w ≺ x → φ (vector w) tt ≡ 𝟘) → (w : Word) → Over k w → w ≺ x → φ (vector w) tt ≡ 𝟘
    fresh_suffice_before x h w o l = not_fails w (λ f. let r = least_failing w o f in r.2 (h r.0 r.1 (up r.0 r.3 f (≺-compare r.0 w))))
      where
        up : (v : Word) → ((u : Word) → u ≺ v → Over k u → φ (vector u) tt ≡ 𝟘) → φ (vector w) tt ≢ 𝟘 → (v ≺ w) ⊎ ((v ≡ w) ⊎ (w ≺ v)) → v ≺ x
        up v before f (inl a) = ≺-transitive v w x a l
        up v before f (inr (inl e)) = same_before _ e l
        up v before f (inr (inr a)) = absurd (f (before w a o))

-- the places are the numbers below d
module _ {V : Type 0} (K : FiniteField V) (d k : ℕ) (vector : Word → ℕ → V) where
  abbrev Place : ℕ → Type 0
  Place i = i < d

  -- there are at most as many fresh words as places
  pub fresh_few : (n : ℕ) (words : ℕ → Word) → ((i j : ℕ) → i < j → j < n → words i ≺ words j) → ((i : ℕ) → i < n → Fresh K Place k vector (words i)) → n ≤ d
  fresh_few n words ascends fresh = independent_few K d n (λ i. vector (words i)) (fresh_independent K Place k vector n words ascends fresh)

  decide_fresh : (w : Word) → Dec (Fresh K Place k vector w)
  decide_fresh w = both (over_decide k w) (other (decide_earlier K Place k vector (range d) (range_has d) (range_are d) w))

  -- fresh words of at most b letters can be counted off
  pub short_counted : (b : ℕ) → ((w : Word) → Fresh K Place k vector w → length w ≤ b) → (n : ℕ) × (n ≤ d) × Count (Fresh K Place k vector) n
  short_counted b short = let r = listed_decidable (Fresh K Place k vector) decide_fresh (upto k b) (λ w h. upto_has k b w h.0 (short w h)) in
      (r.0, fresh_few r.0 r.1.0 r.1.1.ascends r.1.1.good, r.1)

  -- the vectors of all fresh words span all vectors
  pub fresh_spans : (n : ℕ) (words : ℕ → Word) → Listed (Fresh K Place k vector) n words → (w : Word) → Over k w → Span K Place (Of n (λ j. vector (words j))) (vector w)
  fresh_spans n words s w o = span_more K Place (λ x m. let r = s.whole m.0 m.1 in (r.0, r.1, m.3 ∙ ap vector r.2)) (fresh_span K Place k vector (range d) (range_has d) (range_are d) w o)

  module _ (step : ℕ → (ℕ → V) → ℕ → V) (linear : (a : ℕ) → Over k (a ∷ []) → Linear K Place Place (step a))
      (next : (w : Word) (a : ℕ) (i : ℕ) → Place i → vector (w ++ a ∷ []) i ≡ step a (vector w) i) where
    -- a fresh word has fewer letters than there are places: its prefixes are fresh words
    pub fresh_short : (w : Word) → Fresh K Place k vector w → length w < d
    fresh_short w h = fresh_few (suc (length w)) (λ i. take i w)
        (λ i j l b. ≺-shorter (take i w) (take j w) (let e : i ≤ length w = omega arith in let f : j ≤ length w = omega arith in simp length-take-le (omega arith)))
        (λ i b. fresh_prefix K Place k vector step linear next (take i w) (drop i w) (rw take-append-drop h))

    -- they can be counted off
    pub fresh_counted : (n : ℕ) × (n ≤ d) × Count (Fresh K Place k vector) n
    fresh_counted = short_counted d (λ w h. let l = fresh_short w h in omega arith)
