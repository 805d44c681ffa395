-- Every function that a table weighs has a reduced form. Assumes nothing.
use Rattle.std.proofs.Common.{◌≡◌, ℕ, zero, suc, ◌<◌, ◌≤◌, [], ◌∷◌, ◌++◌, reverse, length, sym, refl, ap, ◌∙◌, arith}
use mathlib.Core.List.{reverse-append, reverse-reverse}
use native.Mathlib.Decide.{dec_lt}
use Rattle.field.specs.FiniteField.{FiniteField}
use Rattle.field.proofs.Laws.{zero_times}
use Rattle.series.specs.Words.{Word, Over}
use Rattle.series.specs.Listing.{Listed}
use Rattle.series.specs.Families.{mix}
use Rattle.series.specs.Fresh.{Fresh}
use Rattle.field.specs.Sums.{dot, move}
use Rattle.series.specs.Tables.{Table, against, row, column, weight}
use Rattle.series.specs.Projecting.{Spanning, seen, FreshSeen}
use Rattle.series.specs.Reducing.{Reduced}
use Rattle.series.proofs.Words.{over_append, over_decide, over_reverse}
use Rattle.series.proofs.SumLaws.{sum_zero}
use Rattle.series.proofs.SpanLaws.{span_same, span_member}
use Rattle.series.proofs.LinearMaps.{places_linear}
use Rattle.series.proofs.Families.{span_mix}
use Rattle.series.proofs.FreshWords.{fresh_spans, fresh_short, fresh_counted, short_counted}
use Rattle.series.proofs.Weights.{dot_linear, move_linear, row_push}
use Rattle.series.proofs.Columns.{act_linear}
use Rattle.series.proofs.Images.{fresh_transfer}
use Rattle.series.proofs.Projections.{reduced_from}
use Rattle.series.proofs.ReducedForms.{reduced_alike}

module _ {V : Type 0} (K : FiniteField V) (T : Table V) (k : ℕ) where
  -- the columns of words, read from the end
  back : Word → ℕ → V
  back w = column K T (reverse w)

  back_push : (w : Word) (a i : ℕ) → i < T.states → back (w ++ a ∷ []) i ≡ dot K T.states (T.step a i) (back w)
  unfolding back
  back_push w a i l = ap (λ v. column K T v i) (reverse-append w (a ∷ []))

  -- finitely many columns span the columns of all words
  columns_spanned : (d : ℕ) × (cs : ℕ → ℕ → V) × Spanning K T k d cs
  unfolding back
  columns_spanned = let r = fresh_counted K T.states k back (λ a y i. dot K T.states (T.step a i) y) (λ a o. act_linear K T k a) back_push in (
    r.0,
    (λ j. back (r.2.0 j)),
    record {
      covers = λ u o. span_same K (λ i. i < T.states) (column K T u) (λ i l. ap (λ v. column K T v i) (sym (reverse-reverse u)))
          (fresh_spans K T.states k back r.0 r.2.0 r.2.1 (reverse u) (over_reverse k u o));
      covered = λ i l. span_member K (λ i. i < T.states) (reverse (r.2.0 i), over_reverse k (r.2.0 i) (r.2.1.good i l).0, refl);
    },
  )

  module _ (d : ℕ) (cs : ℕ → ℕ → V) (spanning : Spanning K T k d cs) (n : ℕ) (words : ℕ → Word) (s : Listed (FreshSeen K T k d cs) n words) where
    -- the coefficients of the word i with the letter a
    abbrev Coefficients : ℕ → ℕ → Type 0
    Coefficients a i = (c : ℕ → V) × (Over k (a ∷ []) → i < n → (q : ℕ) → q < d → seen K T k d cs (words i ++ a ∷ []) q ≡ mix K n c (λ j. seen K T k d cs (words j)) q)

    coefficients : (a i : ℕ) → Coefficients a i
    coefficients a i = go (over_decide k (a ∷ [])) (dec_lt i n)
      where
        go : Dec (Over k (a ∷ [])) → Dec (i < n) → Coefficients a i
        go (no u) h = ((λ j. K.zero), λ o. absurd (u o))
        go (yes o) (no u) = ((λ j. K.zero), λ p l. absurd (u l))
        go (yes o) (yes l) = let r = span_mix K (λ q. q < d) n (λ j. seen K T k d cs (words j))
            (fresh_spans K d k (seen K T k d cs) n words s (words i ++ a ∷ []) (over_append k (words i) (a ∷ []) (s.good i l).0 o)) in (r.0, λ p h. r.1)

    unit : ℕ → V
    unit zero = K.one
    unit (suc i) = K.zero

    made : Table V
    made = record { states = n; letters = k; start = unit; step = λ a i. (coefficients a i).0; end = λ i. weight K T (words i) }

    made_reduced : Reduced K k (weight K T) made
    unfolding made unit
    made_reduced = reduced_from K T k d cs spanning made refl words s (λ l. refl) zeros (λ a o i l. (coefficients a i).1 o l) (λ i l. refl)
      where
        zeros : (i : ℕ) → 0 < i → i < n → unit i ≡ K.zero
        zeros zero l h = absurd (omega arith)
        zeros (suc i) l h = refl

  -- a word that is fresh in a view of the rows is fresh by its row, and so it is short
  seen_short : (d : ℕ) (cs : ℕ → ℕ → V) (w : Word) → FreshSeen K T k d cs w → length w ≤ T.states
  seen_short d cs w h = let l = fresh_short K T.states k (row K T) (λ a. move K T.states (T.step a)) (λ a o. move_linear K (λ i. i < T.states) T.states (T.step a))
      (λ v a i q. ap (λ x. x i) (row_push K T v a)) w fresh in omega arith
    where
      fresh : Fresh K (λ i. i < T.states) k (row K T) w
      fresh = fresh_transfer K (λ i. i < T.states) (λ i. i < T.states) (λ i. i < d) (λ x. x) (against K T.states cs)
          (places_linear K (λ i. i < T.states) (λ i. i < T.states) (λ i. i) (λ i l. l)) (dot_linear K (λ i. i < d) T.states cs)
          (λ z n j l. sum_zero K T.states (λ i. K.times (z i) (cs j i)) (λ i b. ap (λ v. K.times v (cs j i)) (n i b) ∙ zero_times K (cs j i))) k (row K T) w h

  -- the reduced form of what a table weighs
  table_reduced : (R : Table V) × Reduced K k (weight K T) R
  table_reduced = through columns_spanned
    where
      through : (d : ℕ) × (cs : ℕ → ℕ → V) × Spanning K T k d cs → (R : Table V) × Reduced K k (weight K T) R
      through c = let r = short_counted K c.0 k (seen K T k c.0 c.1) T.states (seen_short c.0 c.1) in
          (made c.0 c.1 c.2 r.0 r.2.0 r.2.1, made_reduced c.0 c.1 c.2 r.0 r.2.0 r.2.1)

  pub reduced_exists : (f : Word → V) → ((w : Word) → Over k w → weight K T w ≡ f w) → (R : Table V) × Reduced K k f R
  reduced_exists f is = let r = table_reduced in (r.0, reduced_alike K k (weight K T) f r.0 is r.1)
