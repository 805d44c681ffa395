-- Kept and tried words, and when two tables weigh alike. Assumes nothing.
use Rattle.std.proofs.Common.{◌≡◌, ℕ, ◌+◌, ◌*◌, ◌<◌, ◌≤◌, ◌≢◌, ◌⊎◌, ◌↔◌, ◌++◌, length, sym, ◌∙◌, subst, ap₂, inl, inr, mul_comm}
use Rattle.field.specs.FiniteField.{FiniteField}
use Rattle.field.proofs.Laws.{same?}
use Rattle.series.specs.Words.{Word, Over, ◌≺◌}
use Rattle.series.specs.Spans.{Span}
use Rattle.series.specs.Comparing.{Kept, Tried, Alike, LeastDifference}
use Rattle.series.specs.Listing.{Listed, Count}
use Rattle.series.specs.WalkProgress.{Scanned}
use Rattle.series.specs.Tables.{Table, weight, pair, pair_step, left_outcome, right_outcome}
use Rattle.series.proofs.Listings.{count_unique, followed_list, listed_followed}
use Rattle.series.proofs.Differences.{minus_zero, zero_minus}
use Rattle.series.proofs.PairRows.{step_linear, pair_push, left_linear, right_linear, left_weighs, right_weighs}
use Rattle.series.proofs.Places.{bounded, range, range_has, range_are}
use Rattle.series.proofs.LinearMaps.{Linear, minus_linear}
use Rattle.series.proofs.FreshWords.{FreshUpto, fresh_span, fresh_counted, fresh_prefix, fresh_short, least_fresh, least_failing, fresh_suffice, fresh_suffice_before}

module _ {V : Type 0} (K : FiniteField V) where
  infixl 65 ◌⊕◌
  open K use {plus as ◌⊕◌, zero as 𝟘, opposite as neg}

  module _ (S T : Table V) where
    abbrev Place : ℕ → Type 0
    Place i = i < S.states + T.states

    -- how far apart the two outcomes are
    apart : (ℕ → V) → Unit {0} → V
    apart x j = left_outcome K S T x ⊕ neg (right_outcome K S T x)

    apart_linear : Linear K Place (λ i. Unit {0}) apart
    unfolding apart
    apart_linear = minus_linear K (λ x j. left_outcome K S T x) (λ x j. right_outcome K S T x) (left_linear K S T) (right_linear K S T)

    apart_is : (w : Word) → apart (pair K S T w) tt ≡ weight K S w ⊕ neg (weight K T w)
    unfolding apart
    apart_is w = ap₂ (λ x y. x ⊕ neg y) (left_weighs K S T w) (right_weighs K S T w)

    alike : (w : Word) → weight K S w ≡ weight K T w → apart (pair K S T w) tt ≡ 𝟘
    alike w e = apart_is w ∙ zero_minus K (weight K S w) (weight K T w) e

    alike_back : (w : Word) → apart (pair K S T w) tt ≡ 𝟘 → weight K S w ≡ weight K T w
    alike_back w e = minus_zero K (weight K S w) (weight K T w) (sym (apart_is w) ∙ e)

    -- a kept word has fewer letters than both tables have states together
    pub kept_short : (w : Word) → Kept K S T w → length w < S.states + T.states
    kept_short w h = fresh_short K (S.states + T.states) S.letters (pair K S T) (pair_step K S T) (λ a o. step_linear K S T a) (pair_push K S T) w h

    -- a prefix of a kept word is kept
    pub kept_prefix : (u v : Word) → Kept K S T (u ++ v) → Kept K S T u
    kept_prefix = fresh_prefix K Place S.letters (pair K S T) (pair_step K S T) (λ a o. step_linear K S T a) (pair_push K S T)

    -- the kept words can be counted off, and are at most as many as the tables have states
    pub kept_counted : (n : ℕ) × (n ≤ S.states + T.states) × Count (Kept K S T) n
    kept_counted = fresh_counted K (S.states + T.states) S.letters (pair K S T) (pair_step K S T) (λ a o. step_linear K S T a) (pair_push K S T)

    pub kept_number : (n : ℕ) × Count (Kept K S T) n × ((m : ℕ) → Count (Kept K S T) m → m ≡ n) × (n ≤ S.states + T.states)
    kept_number = let r = kept_counted in (r.0, r.2, (λ m c. count_unique (Kept K S T) m r.0 c.0 r.2.0 c.1 r.2.1), r.1)

    -- every pair row is a combination of those of kept words up to it
    pub kept_span : (w : Word) → Over S.letters w → Span K Place (FreshUpto K Place S.letters (pair K S T) w) (pair K S T w)
    kept_span = fresh_span K Place S.letters (pair K S T) (range (S.states + T.states)) (range_has (S.states + T.states)) (range_are (S.states + T.states))

    -- the least word that differs is kept, and so it is short
    pub difference_kept : (v : Word) → LeastDifference K S T v → Kept K S T v
    difference_kept v d = least_fresh K Place S.letters (pair K S T) apart apart_linear v d.over (λ e. d.differs (alike_back v e)) (λ u l p. alike u (d.least u l p))

    pub difference_short : (v : Word) → LeastDifference K S T v → length v < S.states + T.states
    difference_short v d = kept_short v (difference_kept v d)

    -- if some word differs, there is a least one
    pub least_difference : (w : Word) → Over S.letters w → weight K S w ≢ weight K T w → (v : Word) × LeastDifference K S T v
    least_difference w o d = let r = least_failing K Place S.letters (pair K S T) apart apart_linear w o (λ e. d (alike_back w e)) in
        (r.0, record { over = r.1.0; differs = λ e. r.2 (alike r.0 e); least = λ u l p. alike_back u (r.3 u l p) })

    -- if all kept words weigh alike, all words do
    pub kept_decide : ((w : Word) → Kept K S T w → weight K S w ≡ weight K T w) → (w : Word) → Over S.letters w → weight K S w ≡ weight K T w
    kept_decide h w o = alike_back w (fresh_suffice K Place S.letters (pair K S T) apart apart_linear (λ u q. alike u (h u q)) w o)

    pub kept_exactly : ((w : Word) → Kept K S T w → weight K S w ≡ weight K T w) ↔ Alike K S T
    kept_exactly = (kept_decide, λ h w q. h w q.0)

    -- if the kept words before x weigh alike, all words before x do
    pub kept_decide_before : (x : Word) → ((w : Word) → Kept K S T w → w ≺ x → weight K S w ≡ weight K T w) → (w : Word) → Over S.letters w → w ≺ x → weight K S w ≡ weight K T w
    kept_decide_before x h w o l = alike_back w (fresh_suffice_before K Place S.letters (pair K S T) apart apart_linear x (λ u q b. alike u (h u q b)) w o l)

    -- a walk has come to x, the kept words before x weigh alike, and x does not: x is the least difference
    module _ (n : ℕ) (words : ℕ → Word) (x : Word) (s : Scanned (Kept K S T) n words x) (same : (i : ℕ) → i < n → weight K S (words i) ≡ weight K T (words i))
        (o : Over S.letters x) (differs : weight K S x ≢ weight K T x) where
      pub found_least : (u : Word) → u ≺ x → Over S.letters u → weight K S u ≡ weight K T u
      found_least u l p = kept_decide_before x (λ w h g. let r = s.whole w h g in subst (λ y. weight K S y ≡ weight K T y) (sym r.2) (same r.0 r.1)) u p l

      pub found_difference : LeastDifference K S T x
      found_difference = record { over = o; differs = differs; least = found_least }

      pub found_short : length x < S.states + T.states
      found_short = difference_short x found_difference

    -- the kept words, counted off, give the tried words, counted off
    pub tried_listed : (n : ℕ) (words : ℕ → Word) → Listed (Kept K S T) n words → Listed (Tried K S T) (1 + S.letters * n) (followed_list S.letters words)
    tried_listed n words s = subst (λ m. Listed (Tried K S T) (1 + m) (followed_list S.letters words)) (mul_comm n S.letters) (listed_followed S.letters (Kept K S T) n words s)

    pub tried_number : (n : ℕ) → Count (Kept K S T) n → Count (Tried K S T) (1 + S.letters * n) × ((m : ℕ) → Count (Tried K S T) m → m ≡ 1 + S.letters * n)
    tried_number n c = let r = tried_listed n c.0 c.1 in
        ((followed_list S.letters c.0, r), λ m t. count_unique (Tried K S T) m (1 + S.letters * n) t.0 (followed_list S.letters c.0) t.1 r)

    -- the two weigh alike, or there is a least word that differs
    pub tables_compare : Alike K S T ⊎ ((v : Word) × LeastDifference K S T v)
    tables_compare = let r = kept_counted in through r.0 r.2.0 r.2.1 (first r.0 r.2.0)
      where
        first : (n : ℕ) (words : ℕ → Word) → ((i : ℕ) → i < n → weight K S (words i) ≡ weight K T (words i)) ⊎ ((i : ℕ) × (i < n) × (weight K S (words i) ≢ weight K T (words i)))
        first n words = bounded n (λ i. weight K S (words i) ≡ weight K T (words i)) (λ i. same? K (weight K S (words i)) (weight K T (words i)))

        through : (n : ℕ) (words : ℕ → Word) → Listed (Kept K S T) n words
            → ((i : ℕ) → i < n → weight K S (words i) ≡ weight K T (words i)) ⊎ ((i : ℕ) × (i < n) × (weight K S (words i) ≢ weight K T (words i)))
            → Alike K S T ⊎ ((v : Word) × LeastDifference K S T v)
        through n words s (inl h) = inl (kept_decide (λ w q. let m = s.whole w q in subst (λ v. weight K S v ≡ weight K T v) (sym m.2) (h m.0 m.1)))
        through n words s (inr d) = inr (least_difference (words d.0) (s.good d.0 d.1).0 d.2)
