-- A table's rows seen through columns that span those of all words: the words fresh in this view are the leading ones. Assumes nothing.
use Rattle.std.proofs.Common.{◌≡◌, ℕ, ◌<◌, [], ◌∷◌, ◌++◌, sym, ap, ◌∙◌}
use Rattle.field.specs.FiniteField.{FiniteField}
use Rattle.series.specs.Spans.{Span}
use Rattle.series.specs.Words.{Word, Over}
use Rattle.series.specs.Families.{Of, mix}
use Rattle.field.specs.Sums.{dot}
use Rattle.series.specs.Tables.{Table, against, row, column, weight}
use Rattle.series.specs.Listing.{Listed}
use Rattle.series.specs.Projecting.{Columns, Spanning, seen, FreshSeen}
use Rattle.series.specs.Reducing.{residual, Leading, Reduced}
use Rattle.field.proofs.Rows.{sum_same}
use Rattle.series.proofs.LinearMaps.{span_gone}
use Rattle.series.proofs.Weights.{dot_comm, dot_linear, weight_append}
use Rattle.series.proofs.FreshWords.{fresh_alike}
use Rattle.series.proofs.Images.{mix_transfer, fresh_transfer}
use Rattle.series.proofs.Listings.{listed_same}

module _ {V : Type 0} (K : FiniteField V) where
  open K use {zero as 𝟘}

  -- a row that is zero at columns is zero at their combinations
  pub dot_vanishes : (n : ℕ) (S : (ℕ → V) → Type 0) (x y : ℕ → V) → ((c : ℕ → V) → S c → dot K n x c ≡ 𝟘) → Span K (λ i. i < n) S y → dot K n x y ≡ 𝟘
  dot_vanishes n S x y h s = dot_comm K n x y ∙ span_gone K (λ c j. dot K n c x) (dot_linear K (λ (i : Unit {0}). Unit {0}) n (λ j. x)) tt tt (λ c q. dot_comm K n c x ∙ h c q) s

-- rows seen through columns that span those of all words
module _ {V : Type 0} (K : FiniteField V) (T : Table V) (k d : ℕ) (cs : ℕ → ℕ → V) (spanning : Spanning K T k d cs) where
  open K use {zero as 𝟘}

  abbrev Place : ℕ → Type 0
  Place i = i < T.states

  abbrev Seen : ℕ → Type 0
  Seen i = i < d

  -- what is zero in the view has residual zero, and the other way round
  seen_all : (z : ℕ → V) → ((i : ℕ) → Seen i → against K T.states cs z i ≡ 𝟘) → (u : Word) → Over k u → against K T.states (column K T) z u ≡ 𝟘
  seen_all z n u o = dot_vanishes K T.states (Of d cs) z (column K T u) (λ c m. ap (λ v. dot K T.states z v) m.2 ∙ n m.0 m.1) (spanning.covers u o)

  all_seen : (z : ℕ → V) → ((u : Word) → Over k u → against K T.states (column K T) z u ≡ 𝟘) → (i : ℕ) → Seen i → against K T.states cs z i ≡ 𝟘
  all_seen z n i l = dot_vanishes K T.states (Columns K T k) z (cs i) (λ c m. ap (λ v. dot K T.states z v) m.2 ∙ n m.0 m.1) (spanning.covered i l)

  pub seen_leading : (w : Word) → FreshSeen K T k d cs w → Leading K k (weight K T) w
  seen_leading w h =
      fresh_alike K (Over k) k (λ v. against K T.states (column K T) (row K T v)) (residual (weight K T)) (λ v o u p. sym (weight_append K T v u)) w
      (fresh_transfer K Place (Over k) Seen (against K T.states (column K T)) (against K T.states cs) (dot_linear K (Over k) T.states (column K T))
      (dot_linear K Seen T.states cs) all_seen k (row K T) w h)

  pub leading_seen : (w : Word) → Leading K k (weight K T) w → FreshSeen K T k d cs w
  leading_seen w h =
      fresh_transfer K Place Seen (Over k) (against K T.states cs) (against K T.states (column K T)) (dot_linear K Seen T.states cs)
      (dot_linear K (Over k) T.states (column K T)) seen_all k (row K T) w
      (fresh_alike K (Over k) k (residual (weight K T)) (λ v. against K T.states (column K T) (row K T v)) (λ v o u p. weight_append K T v u) w h)

  -- an equation in the view is one of residuals
  seen_mix : (w : Word) (n : ℕ) (c : ℕ → V) (words : ℕ → Word) → ((i : ℕ) → Seen i → seen K T k d cs w i ≡ mix K n c (λ j. seen K T k d cs (words j)) i)
      → (u : Word) → Over k u → residual (weight K T) w u ≡ mix K n c (λ j. residual (weight K T) (words j)) u
  seen_mix w n c words e u o =
      weight_append K T w u
      ∙ mix_transfer K Place Seen (Over k) (against K T.states cs) (against K T.states (column K T)) (dot_linear K Seen T.states cs)
      (dot_linear K (Over k) T.states (column K T)) seen_all (row K T w) n c (λ j. row K T (words j)) e u o
      ∙ sum_same K n (λ j. K.times (c j) (dot K T.states (row K T (words j)) (column K T u))) (λ j. K.times (c j) (weight K T (words j ++ u)))
      (λ j l. ap (K.times (c j)) (sym (weight_append K T (words j) u)))

  -- a table that is the reduced form in the view is the reduced form
  pub reduced_from : (R : Table V) → R.letters ≡ k → (words : ℕ → Word) → Listed (FreshSeen K T k d cs) R.states words
      → (0 < R.states → R.start 0 ≡ K.one)
      → ((i : ℕ) → 0 < i → i < R.states → R.start i ≡ K.zero)
      → ((a : ℕ) → Over k (a ∷ []) → (m : ℕ) → m < R.states → (i : ℕ) → i < d → seen K T k d cs (words m ++ a ∷ []) i ≡ mix K R.states (R.step a m) (λ j. seen K T k d cs (words j)) i)
      → ((i : ℕ) → i < R.states → R.end i ≡ weight K T (words i))
      → Reduced K k (weight K T) R
  reduced_from R letters words listed one zeros steps ends = record {
    letters = letters;
    words = words;
    listed = listed_same (FreshSeen K T k d cs) (Leading K k (weight K T)) seen_leading leading_seen listed;
    start_one = one;
    start_zero = zeros;
    steps = λ a o i l. seen_mix (words i ++ a ∷ []) R.states (R.step a i) words (steps a o i l);
    ends = ends;
  }
