-- A walk through the words that keeps the vectors of the words found in echelon form. Assumes nothing.
use Rattle.std.proofs.Common.{◌≡◌, ℕ, suc, ◌<◌, ◌≢◌, List, sym, refl, ap, ◌∙◌, ap₂, arith}
use Rattle.field.specs.FiniteField.{FiniteField}
use Rattle.field.proofs.Laws.{times_zero, one_times, ring}
use Rattle.series.specs.Spans.{Span, none}
use Rattle.series.specs.Words.{Word, Over}
use Rattle.series.specs.Families.{Of}
use Rattle.series.specs.Fresh.{Fresh}
use Rattle.series.specs.WalkProgress.{Scanned}
use Rattle.series.specs.EliminationProgress.{Echelon, Basis}
use Rattle.series.proofs.Differences.{take_back}
use Rattle.series.proofs.Lists.{Among}
use Rattle.series.proofs.Places.{below_next}
use Rattle.series.proofs.SpanLaws.{span_same, span_is, span_member, span_plus, span_times, span_span, span_more}
use Rattle.series.proofs.FreshWords.{EarlierFresh, earlier_fresh}
use Rattle.series.proofs.Echelons.{no_divisors, echelon_in, echelon_out, echelon_more}

module _ {V : Type 0} (K : FiniteField V) {X : Type 0} (P : X → Type 0) where
  infixl 65 ◌⊕◌
  infixl 70 ◌⊗◌
  open K use {plus as ◌⊕◌, times as ◌⊗◌, zero as 𝟘, one as 𝟙, opposite as neg, inverse as inv}

  -- nothing is taken from x yet
  pub clear_start : (n : ℕ) (xs : ℕ → X → V) (x : X → V) → Span K P (Of n xs) (λ i. x i ⊕ neg (x i))
  clear_start n xs x = none (λ i p. K.plus_opposite (x i))

  -- y is what is left of x when the first t of xs are taken out; take out c times the next
  pub clear_step : (n : ℕ) (xs : ℕ → X → V) (at : ℕ → X) → Echelon K P n xs at → (t : ℕ) → t < n → (x y z : X → V) (c : V) → Span K P (Of n xs) (λ i. x i ⊕ neg (y i))
      → ((i : ℕ) → i < t → y (at i) ≡ 𝟘) → c ⊗ xs t (at t) ≡ y (at t) → ((q : X) → P q → z q ≡ y q ⊕ neg (c ⊗ xs t q))
      → Span K P (Of n xs) (λ i. x i ⊕ neg (z i)) × ((i : ℕ) → i < suc t → z (at i) ≡ 𝟘)
  clear_step n xs at E t l x y z c s gone pick is = (
    span_same K P (λ i. x i ⊕ neg (z i)) (λ q p. ap (λ v. x q ⊕ neg v) (is q p) ∙ simp (ring, K))
        (span_plus K P s (span_times K P c (span_member K P (t, l, refl)))),
    below_next (λ i. z (at i) ≡ 𝟘) t
        (λ i b. is (at i) (E.within i (omega arith)) ∙ ap₂ (λ v w. v ⊕ neg (c ⊗ w)) (gone i b) (E.clear i t b l) ∙ ap (λ v. 𝟘 ⊕ neg v) (times_zero K c) ∙ K.plus_opposite 𝟘)
        (is (at t) (E.within t l) ∙ ap (λ v. y (at t) ⊕ neg v) pick ∙ K.plus_opposite (y (at t))),
  )

  module _ (vector : Word → X → V) where
    -- no words yet
    pub basis_none : (words : ℕ → Word) (xs : ℕ → X → V) (at : ℕ → X) → Basis K P vector 0 words xs at
    basis_none words xs at = record {
      stairs = record { within = λ i l. absurd (omega arith); apart = λ i l. absurd (omega arith); clear = λ i j l h. absurd (omega arith) };
      from = λ j l. absurd (omega arith);
      to = λ j l. absurd (omega arith);
    }

    -- one word more: y is what is left of its vector
    pub basis_more : (n : ℕ) (words words' : ℕ → Word) (xs xs' : ℕ → X → V) (at at' : ℕ → X) (x : Word) (y : X → V) → Basis K P vector n words xs at
        → Span K P (Of n xs) (λ i. vector x i ⊕ neg (y i)) → ((i : ℕ) → i < n → y (at i) ≡ 𝟘)
        → ((i : ℕ) → i < n → words' i ≡ words i) → words' n ≡ x
        → ((i : ℕ) → i < n → (q : X) → P q → xs' i q ≡ xs i q) → ((q : X) → P q → xs' n q ≡ y q)
        → ((i : ℕ) → i < n → at' i ≡ at i) → P (at' n) → y (at' n) ≢ 𝟘
        → Basis K P vector (suc n) words' xs' at'
    basis_more n words words' xs xs' at at' x y B s gone old here olds heres places p u = record {
      stairs = echelon_more K P n xs xs' at at' B.stairs olds places p (λ e. u (sym (heres (at' n) p) ∙ e)) (λ i l. heres (at i) (B.stairs.within i l) ∙ gone i l);
      from = below_next (λ j. Span K P (Of (suc n) (λ i. vector (words' i))) (xs' j)) n
          (λ j l. span_same K P (xs' j) (olds j l) (rows (B.from j l))) (span_same K P (xs' n) heres left);
      to = below_next (λ j. Span K P (Of (suc n) xs') (vector (words' j))) n
          (λ j l. span_same K P (vector (words' j)) (λ i q. ap (λ v. vector v i) (old j l)) (steps (B.to j l)))
          (span_same K P (vector (words' n)) (λ i q. ap (λ v. vector v i) here) right);
    }
      where
        rows : {v : X → V} → Span K P (Of n (λ i. vector (words i))) v → Span K P (Of (suc n) (λ i. vector (words' i))) v
        rows t = span_more K P (λ v m. (m.0, omega arith, m.2 ∙ ap vector (sym (old m.0 m.1)))) t

        steps : {v : X → V} → Span K P (Of n xs) v → Span K P (Of (suc n) xs') v
        steps t = span_span K P (λ v m. span_same K P v (λ i q. ap (λ w. w i) m.2 ∙ sym (olds m.0 m.1 i q)) (span_member K P (m.0, omega arith, refl))) t

        whole : (a b : V) → b ⊕ (a ⊕ neg b) ≡ a
        whole a b = simp (ring, K)

        left : Span K P (Of (suc n) (λ i. vector (words' i))) y
        left = span_same K P y (λ i q. sym (take_back K (vector x i) (y i)))
            (span_plus K P (span_member K P (n, omega arith, ap vector (sym here)))
            (span_times K P (neg 𝟙) (rows (span_span K P (λ v m. span_is K P m.2 (B.from m.0 m.1)) s))))

        right : Span K P (Of (suc n) xs') (vector x)
        right = span_same K P (vector x) (λ i q. sym (whole (vector x i) (y i))) (span_plus K P (span_same K P y (λ i q. sym (heres i q)) (span_member K P (n, omega arith, refl))) (steps s))

    -- each vector times a number that is not zero
    pub basis_times : (n : ℕ) (words : ℕ → Word) (xs xs' : ℕ → X → V) (at : ℕ → X) (b : ℕ → V) → Basis K P vector n words xs at → ((j : ℕ) → j < n → b j ≢ 𝟘)
        → ((j : ℕ) → j < n → (q : X) → P q → xs' j q ≡ b j ⊗ xs j q) → Basis K P vector n words xs' at
    basis_times n words xs xs' at b B u is = record {
      stairs = record {
        within = B.stairs.within;
        apart = λ i l e. B.stairs.apart i l (no_divisors K (xs i (at i)) (b i) (K.times_comm (xs i (at i)) (b i) ∙ sym (is i l (at i) (B.stairs.within i l)) ∙ e) (u i l));
        clear = λ i j l h. is j h (at i) (B.stairs.within i (omega arith)) ∙ ap (λ v. b j ⊗ v) (B.stairs.clear i j l h) ∙ times_zero K (b j);
      };
      from = λ j l. span_same K P (xs' j) (is j l) (span_times K P (b j) (B.from j l));
      to = λ j l. span_span K P (λ v m. span_same K P v (λ i q. ap (λ w. w i) m.2 ∙ sym (back m.0 m.1 i q))
          (span_times K P (inv (b m.0)) (span_member K P (m.0, m.1, refl)))) (B.to j l);
    }
      where
        back : (j : ℕ) → j < n → (i : X) → P i → inv (b j) ⊗ xs' j i ≡ xs j i
        back j l i q = ap (λ v. inv (b j) ⊗ v) (is j l i q) ∙ sym (K.times_assoc (inv (b j)) (b j) (xs j i))
            ∙ ap (λ v. v ⊗ xs j i) (K.times_comm (inv (b j)) (b j) ∙ K.times_inverse (b j) (u j l)) ∙ one_times K (xs j i)

    -- whether x is kept shows in what is left of its vector
    module _ (k n : ℕ) (words : ℕ → Word) (xs : ℕ → X → V) (at : ℕ → X) (x : Word) (S : Scanned (Fresh K P k vector) n words x) (B : Basis K P vector n words xs at) (y : X → V)
        (s : Span K P (Of n xs) (λ i. vector x i ⊕ neg (y i))) where
      pub basis_not_fresh : ((q : X) → P q → y q ≡ 𝟘) → ¬ (Fresh K P k vector x)
      basis_not_fresh z h = h.1 (span_more K P (λ v m. (words m.0, S.before m.0 m.1, (S.good m.0 m.1).0, m.2))
          (span_span K P (λ v m. span_is K P m.2 (B.from m.0 m.1)) (echelon_in K P n xs (vector x) y s z)))

      pub basis_fresh : (qs : List X) → ((i : X) → P i → Among qs i) → ((i : X) → Among qs i → P i) → Over k x → ((i : ℕ) → i < n → y (at i) ≡ 𝟘) → (q : X) → P q → y q ≢ 𝟘 → Fresh K P k vector x
      basis_fresh qs to of o gone q p u = (o, λ t. u (echelon_out K P n xs at B.stairs (vector x) y s gone (span_span K P through (earlier_fresh K P k vector qs to of x t)) q p))
        where
          through : (v : X → V) → EarlierFresh K P k vector x v → Span K P (Of n xs) v
          through v m = let r = S.whole m.0 m.2 m.1 in span_is K P (m.3 ∙ ap vector r.2) (B.to r.0 r.1)
