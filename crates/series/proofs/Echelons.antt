-- Vectors in echelon form. Assumes nothing.
use Rattle.std.proofs.Common.{◌≡◌, ℕ, zero, suc, ◌<◌, ◌≤◌, ◌≢◌, sym, ap, ◌∙◌, subst, arith}
use native.Mathlib.Decide.{dec_lt}
use Rattle.field.specs.FiniteField.{FiniteField}
use Rattle.field.proofs.Laws.{zero_times, times_zero, ring}
use Rattle.series.specs.Spans.{Span}
use Rattle.series.specs.Families.{Of, mix, Independent}
use Rattle.series.specs.EliminationProgress.{Echelon}
use Rattle.series.proofs.Differences.{take_back}
use Rattle.series.proofs.SumLaws.{sum_zero, sum_one}
use Rattle.series.proofs.SpanLaws.{span_same, span_plus, span_times}
use Rattle.series.proofs.Families.{span_mix, independent_few}
use Rattle.series.proofs.Places.{below_next}

module _ {V : Type 0} (K : FiniteField V) where
  infixl 65 ◌⊕◌
  infixl 70 ◌⊗◌
  open K use {plus as ◌⊕◌, times as ◌⊗◌, zero as 𝟘, one as 𝟙, opposite as neg, inverse as inv}

  pub no_divisors : (x y : V) → x ⊗ y ≡ 𝟘 → y ≢ 𝟘 → x ≡ 𝟘
  no_divisors x y e u = sym (K.times_one x) ∙ ap (λ v. x ⊗ v) (sym (K.times_inverse y u)) ∙ sym (K.times_assoc x y (inv y)) ∙ ap (λ v. v ⊗ inv y) e ∙ zero_times K (inv y)

  module _ {X : Type 0} (P : X → Type 0) where
    module _ (n : ℕ) (xs : ℕ → X → V) (at : ℕ → X) (E : Echelon K P n xs at) where
      coefficient_zero : (c : ℕ → V) → ((i : ℕ) → i < n → mix K n c xs (at i) ≡ 𝟘) → (i : ℕ) → i < n → ((j : ℕ) → j < i → c j ≡ 𝟘) → c i ≡ 𝟘
      coefficient_zero c z i l before = no_divisors (c i) (xs i (at i)) (sym (sum_one K n i (λ j. c j ⊗ xs j (at i)) l (λ j b u. term j b (dec_lt j i) u)) ∙ z i l) (E.apart i l)
        where
          term : (j : ℕ) → j < n → Dec (j < i) → j ≢ i → c j ⊗ xs j (at i) ≡ 𝟘
          term j b (yes h) u = ap (λ v. v ⊗ xs j (at i)) (before j h) ∙ zero_times K (xs j (at i))
          term j b (no h) u = ap (λ v. c j ⊗ v) (E.clear i j (omega arith) b) ∙ times_zero K (c j)

      coefficients_zero : (c : ℕ → V) → ((i : ℕ) → i < n → mix K n c xs (at i) ≡ 𝟘) → (b i : ℕ) → i < b → i < n → c i ≡ 𝟘
      coefficients_zero c z zero i h l = absurd (omega arith)
      coefficients_zero c z (suc b) i h l = coefficient_zero c z i l (λ j q. coefficients_zero c z b j (omega arith) (omega arith))

      -- a combination of them that is zero at their places is zero
      pub echelon_zero : (y : X → V) → Span K P (Of n xs) y → ((i : ℕ) → i < n → y (at i) ≡ 𝟘) → (q : X) → P q → y q ≡ 𝟘
      echelon_zero y s z q p =
          let r = span_mix K P n xs s in
          r.1 q p ∙ sum_zero K n (λ j. r.0 j ⊗ xs j q) (λ j l. ap (λ v. v ⊗ xs j q) (coefficients_zero r.0 (λ i b. sym (r.1 (at i) (E.within i b)) ∙ z i b) (suc j) j
          (omega arith) l) ∙ zero_times K (xs j q))

    -- the first of them
    pub echelon_fewer : (n m : ℕ) (xs : ℕ → X → V) (at : ℕ → X) → m ≤ n → Echelon K P n xs at → Echelon K P m xs at
    echelon_fewer n m xs at l E = record { within = λ i b. E.within i (omega arith); apart = λ i b. E.apart i (omega arith); clear = λ i j b h. E.clear i j b (omega arith) }

    -- one more, zero at the places of the others
    pub echelon_more : (n : ℕ) (xs ys : ℕ → X → V) (at bt : ℕ → X) → Echelon K P n xs at → ((i : ℕ) → i < n → (q : X) → P q → ys i q ≡ xs i q) → ((i : ℕ) → i < n → bt i ≡ at i)
        → P (bt n) → ys n (bt n) ≢ 𝟘 → ((i : ℕ) → i < n → ys n (at i) ≡ 𝟘) → Echelon K P (suc n) ys bt
    echelon_more n xs ys at bt E same there p u z = record {
      within = below_next (λ i. P (bt i)) n inside p;
      apart = below_next (λ i. ys i (bt i) ≢ 𝟘) n (λ i l e. E.apart i l (ap (xs i) (sym (there i l)) ∙ sym (same i l (bt i) (inside i l)) ∙ e)) u;
      clear = λ i j l h. below_next (λ m. i < m → ys m (bt i) ≡ 𝟘) n
          (λ m b g. same m b (bt i) (inside i (omega arith)) ∙ ap (xs m) (there i (omega arith)) ∙ E.clear i m g b)
          (λ g. ap (ys n) (there i g) ∙ z i g) j h l;
    }
      where
        inside : (i : ℕ) → i < n → P (bt i)
        inside i l = subst P (sym (there i l)) (E.within i l)

    pub echelon_independent : (n : ℕ) (xs : ℕ → X → V) (at : ℕ → X) → Echelon K P n xs at → Independent K P n xs
    echelon_independent n xs at E j l s = E.apart j l (echelon_zero j xs at (echelon_fewer n j xs at (omega arith) E) (xs j) s (λ i b. E.clear i j b l) (at j) (E.within j l))

    -- x and what is left of it, y, differ by a combination: x is a combination if and only if y is zero
    pub echelon_in : (n : ℕ) (xs : ℕ → X → V) (x y : X → V) → Span K P (Of n xs) (λ i. x i ⊕ neg (y i)) → ((q : X) → P q → y q ≡ 𝟘) → Span K P (Of n xs) x
    echelon_in n xs x y s z = span_same K P x (λ q p. sym (ap (λ v. x q ⊕ neg v) (z q p) ∙ simp (ring, K))) s

    pub echelon_out : (n : ℕ) (xs : ℕ → X → V) (at : ℕ → X) → Echelon K P n xs at → (x y : X → V) → Span K P (Of n xs) (λ i. x i ⊕ neg (y i)) → ((i : ℕ) → i < n → y (at i) ≡ 𝟘)
        → Span K P (Of n xs) x → (q : X) → P q → y q ≡ 𝟘
    echelon_out n xs at E x y s z t = echelon_zero n xs at E y (span_same K P y (λ q p. sym (take_back K (x q) (y q))) (span_plus K P t (span_times K P (neg 𝟙) s))) z

  pub echelon_few : (d n : ℕ) (xs : ℕ → ℕ → V) (at : ℕ → ℕ) → Echelon K (λ i. i < d) n xs at → n ≤ d
  echelon_few d n xs at E = independent_few K d n xs (echelon_independent (λ i. i < d) n xs at E)
