-- The reduced form weighs as the function does, no table that does has fewer states, and there is one only. Assumes nothing.
use Rattle.std.proofs.Common.{◌≡◌, ℕ, ◌<◌, ◌≤◌, ◌↔◌, [], ◌∷◌, ◌++◌, sym, refl, ap, ◌∙◌, subst, append_assoc, append-nil, arith}
use native.Mathlib.Decide.{dec_lt, ℕ_discrete}
use Rattle.field.specs.FiniteField.{FiniteField}
use Rattle.field.proofs.Laws.{same?}
use Rattle.series.specs.Words.{Word, Over}
use Rattle.series.specs.Families.{mix, Independent}
use Rattle.field.specs.Sums.{dot, move}
use Rattle.field.specs.Rows.{Agree}
use Rattle.series.specs.Tables.{Table, after, row, column, weight, SameTable}
use Rattle.series.specs.Reducing.{residual, Leading, Reduced}
use Rattle.series.proofs.Words.{over_append}
use Rattle.field.proofs.Rows.{sum_same}
use Rattle.series.proofs.SpanLaws.{span_same, span_member, span_zero}
use Rattle.series.proofs.LinearMaps.{span_through, places_linear}
use Rattle.series.proofs.Orders.{none_before}
use Rattle.series.proofs.FreshWords.{fresh_prefix, fresh_alike, fresh_independent}
use Rattle.series.proofs.Weights.{dot_move, dot_linear, weight_append, same_weight}
use Rattle.series.proofs.Families.{mix_one, mix_unique, more_dependent}
use Rattle.series.proofs.Listings.{listed_same, first_empty, same_words, count_unique}

module _ {V : Type 0} (K : FiniteField V) (k : ℕ) where
  infixl 70 ◌⊗◌
  open K use {times as ◌⊗◌, zero as 𝟘}

  -- a prefix of a leading word is leading
  pub leading_prefix : (f : Word → V) (w v : Word) → Leading K k f (w ++ v) → Leading K k f w
  leading_prefix f = fresh_prefix K (Over k) k (residual f) (λ a z u. z (a ∷ u)) (λ a o. places_linear K (Over k) (Over k) (λ u. a ∷ u) (λ u p. (o.0, o.1, p)))
      (λ w a u p. ap f (append_assoc w (a ∷ []) u))

  module _ (f : Word → V) (R : Table V) (c : Reduced K k f R) where
    res : ℕ → Word → V
    res j = residual f (c.words j)

    follows : (x : ℕ → V) (w u : Word) → Over k w → Over k u → mix K R.states (after K R x w) res u ≡ mix K R.states x res (w ++ u)
    unfolding res
    follows x [] u o p = refl
    follows x (a ∷ w) u o p = follows (move K R.states (R.step a) x) w u o.2 p ∙ dot_move K R.states (R.step a) x (λ j. res j (w ++ u))
        ∙ sum_same K R.states (λ i. x i ⊗ mix K R.states (R.step a i) res (w ++ u)) (λ i. x i ⊗ res i (a ∷ (w ++ u)))
        (λ i l. ap (λ v. x i ⊗ v) (sym (c.steps a (o.0, o.1, tt) i l (w ++ u) (over_append k w u o.2 p)) ∙ ap f (append_assoc (c.words i) (a ∷ []) (w ++ u))))

    -- the start row's part: f is the first leading word's residual, and zero if there is none
    starts : (u : Word) → Over k u → f u ≡ mix K R.states R.start res u
    unfolding res
    starts u o = go (dec_lt 0 R.states)
      where
        first : 0 < R.states → c.words 0 ≡ []
        first l = (first_empty (Leading K k f) R.states c.words c.listed (leading_prefix f [] (c.words 0) (c.listed.good 0 l))).1

        nothing : ¬ (0 < R.states) → Dec (f u ≡ 𝟘) → f u ≡ 𝟘
        nothing h (yes e) = e
        nothing h (no z) = absurd (h (first_empty (Leading K k f) R.states c.words c.listed (tt, λ s. z (span_zero K (Over k) u o (λ x m. absurd (none_before m.0 m.1)) s))).0)

        go : Dec (0 < R.states) → f u ≡ mix K R.states R.start (λ j. residual f (c.words j)) u
        go (yes l) = ap (λ v. f (v ++ u)) (sym (first l))
            ∙ sym (mix_one K (Over k) R.states (λ j. residual f (c.words j)) R.start 0 l (c.start_one l) (λ j b v. c.start_zero j (omega arith) b) u)
        go (no h) = let z : R.states ≡ 0 = omega arith in nothing h (same? K (f u) 𝟘) ∙ sym (ap (λ n. mix K n R.start (λ j. residual f (c.words j)) u) z)

    -- it weighs what f says
    pub reduced_weight : (w : Word) → Over k w → weight K R w ≡ f w
    unfolding res
    reduced_weight w o = sum_same K R.states (λ j. row K R w j ⊗ R.end j) (λ j. row K R w j ⊗ res j [])
        (λ j l. ap (λ v. row K R w j ⊗ v) (c.ends j l ∙ ap f (sym (append-nil (c.words j))))) ∙ follows R.start w [] o tt ∙ sym (starts (w ++ []) (rw append-nil o))
        ∙ ap f (append-nil w)

    pub reduced_independent : Independent K (Over k) R.states (λ j. residual f (c.words j))
    reduced_independent = fresh_independent K (Over k) k (residual f) R.states c.words c.listed.ascends c.listed.good

    -- no table that weighs what f says has fewer states
    pub reduced_least : (T : Table V) → ((u : Word) → Over k u → weight K T u ≡ f u) → R.states ≤ T.states
    reduced_least T is = go (dec_lt T.states R.states)
      where
        rows : ℕ → ℕ → V
        rows j = row K T (c.words j)

        through : (x : ℕ → V) → Word → V
        through x u = dot K T.states x (column K T u)

        agrees : (j : ℕ) → j < R.states → (u : Word) → Over k u → residual f (c.words j) u ≡ through (rows j) u
        agrees j l u p = sym (is (c.words j ++ u) (over_append k (c.words j) u (c.listed.good j l).0 p)) ∙ weight_append K T (c.words j) u

        go : Dec (T.states < R.states) → R.states ≤ T.states
        go (no u) = omega arith
        go (yes l) =
            let r = more_dependent K T.states R.states rows l in
            absurd (reduced_independent r.0 r.1 (span_same K (Over k) (residual f (c.words r.0)) (agrees r.0 r.1)
            (span_through K through (dot_linear K (Over k) T.states (column K T))
            (λ x m. span_same K (Over k) (through x) (λ u p. ap (λ v. through v u) m.2 ∙ sym (agrees m.0 (omega (arith, r.1, m.1)) u p))
            (span_member K (Over k) (m.0, m.1, refl))) r.2)))

  -- there is one only
  pub reduced_unique : (f : Word → V) (R S : Table V) → Reduced K k f R → Reduced K k f S → SameTable R S
  reduced_unique f R S c d = record {
    states = count;
    letters = c.letters ∙ sym d.letters;
    start = λ i l. start i (ℕ_discrete i 0) l;
    step = λ a low high i l. step a (low, subst (λ n. a ≤ n) c.letters high, tt) i l;
    end = λ i l. c.ends i l ∙ ap f (words i l) ∙ sym (d.ends i (omega (arith, count)));
  }
    where
      count : R.states ≡ S.states
      count = count_unique (Leading K k f) R.states S.states c.words d.words c.listed d.listed

      words : (i : ℕ) → i < R.states → c.words i ≡ d.words i
      words i l = (same_words (Leading K k f) R.states S.states c.words d.words c.listed d.listed i l).1

      start : (i : ℕ) → Dec (i ≡ 0) → i < R.states → R.start i ≡ S.start i
      start i (yes e) l = ap R.start e ∙ c.start_one (omega arith) ∙ sym (d.start_one (omega (arith, count))) ∙ ap S.start (sym e)
      start i (no u) l = c.start_zero i (omega arith) l ∙ sym (d.start_zero i (omega arith) (omega (arith, count)))

      other : (e : ℕ → V) (u : Word) → mix K S.states e (λ j. residual f (d.words j)) u ≡ mix K R.states e (λ j. residual f (c.words j)) u
      other e u = ap (λ n. mix K n e (λ j. residual f (d.words j)) u) (sym count)
          ∙ sum_same K R.states (λ j. e j ⊗ residual f (d.words j) u) (λ j. e j ⊗ residual f (c.words j) u) (λ j l. ap (λ v. e j ⊗ f (v ++ u)) (sym (words j l)))

      step : (a : ℕ) → Over k (a ∷ []) → (i : ℕ) → i < R.states → Agree R.states (R.step a i) (S.step a i)
      step a o i l = mix_unique K (Over k) R.states (λ j. residual f (c.words j)) (reduced_independent f R c) (R.step a i) (S.step a i)
          (λ u p. sym (c.steps a o i l u p) ∙ ap (λ v. f ((v ++ a ∷ []) ++ u)) (words i l) ∙ d.steps a o i (omega (arith, count)) u p ∙ other (S.step a i) u)

  -- of two functions that agree it is the same
  pub reduced_alike : (f g : Word → V) (R : Table V) → ((w : Word) → Over k w → f w ≡ g w) → Reduced K k f R → Reduced K k g R
  reduced_alike f g R same c = record {
    letters = c.letters;
    words = c.words;
    listed = listed_same (Leading K k f) (Leading K k g) (fresh_alike K (Over k) k (residual f) (residual g) alike)
        (fresh_alike K (Over k) k (residual g) (residual f) (λ w o u p. sym (alike w o u p))) c.listed;
    start_one = c.start_one;
    start_zero = c.start_zero;
    steps = λ a o i l u p. sym (alike (c.words i ++ a ∷ []) (over_append k (c.words i) (a ∷ []) (c.listed.good i l).0 o) u p) ∙ c.steps a o i l u p ∙ mixed (R.step a i) u p;
    ends = λ i l. c.ends i l ∙ same (c.words i) (c.listed.good i l).0;
  }
    where
      alike : (w : Word) → Over k w → (u : Word) → Over k u → residual f w u ≡ residual g w u
      alike w o u p = same (w ++ u) (over_append k w u o p)

      mixed : (e : ℕ → V) (u : Word) → Over k u → mix K R.states e (λ j. residual f (c.words j)) u ≡ mix K R.states e (λ j. residual g (c.words j)) u
      mixed e u p = sum_same K R.states (λ j. e j ⊗ residual f (c.words j) u) (λ j. e j ⊗ residual g (c.words j) u) (λ j l. ap (λ v. e j ⊗ v) (alike (c.words j) (c.listed.good j l).0 u p))

  -- two functions agree exactly where their reduced forms do, number for number
  pub reduced_same : (f g : Word → V) (R S : Table V) → Reduced K k f R → Reduced K k g S → ((w : Word) → Over k w → f w ≡ g w) → SameTable R S
  reduced_same f g R S c d same = reduced_unique g R S (reduced_alike f g R same c) d

  pub same_reduced : (f g : Word → V) (R S : Table V) → Reduced K k f R → Reduced K k g S → SameTable R S → (w : Word) → Over k w → f w ≡ g w
  same_reduced f g R S c d same w o = sym (reduced_weight f R c w o) ∙ same_weight K R S same w (subst (λ n. Over n w) (sym c.letters) o) ∙ reduced_weight g S d w o

  pub reduced_exactly : (f g : Word → V) (R S : Table V) → Reduced K k f R → Reduced K k g S → SameTable R S ↔ ((w : Word) → Over k w → f w ≡ g w)
  reduced_exactly f g R S c d = (same_reduced f g R S c d, reduced_same f g R S c d)
