-- A basis of the vectors of words, as an elimination adds to it. Assumes nothing.
use Rattle.std.proofs.Common.{◌≡◌, ℕ, suc, ◌<◌, ◌≢◌, sym, ap, ◌∙◌, subst, arith}
use native.Mathlib.Decide.{ℕ_discrete}
use Rattle.field.specs.FiniteField.{FiniteField}
use Rattle.field.proofs.Laws.{one_times, times_zero}
use Rattle.series.specs.EliminationProgress.{Basis}
use Rattle.field.specs.Rows.{Agree}
use Rattle.series.specs.Words.{Word}
use Rattle.series.proofs.Bases.{basis_more, basis_times}
use Rattle.elimination.specs.Elimination.{NewRow}
use Rattle.elimination.proofs.Updates.{updated, updated_here, updated_other}

module _ {V : Type 0} (K : FiniteField V) where
  inverse_apart : (x : V) → x ≢ K.zero → K.inverse x ≢ K.zero
  inverse_apart x u z = K.one_not_zero (sym (K.times_inverse x u) ∙ ap (K.times x) z ∙ times_zero K x)

  -- rows with the same entries
  pub basis_same : (d n : ℕ) (r : Word → ℕ → V) (words : ℕ → Word) (q q' : ℕ → ℕ → V) (p : ℕ → ℕ) → ((b : ℕ) → b < n → Agree d (q' b) (q b)) → Basis K (λ i. i < d) r n words q p → Basis K (λ i. i < d) r n words q' p
  basis_same d n r words q q' p s B = basis_times K (λ i. i < d) r n words q q' p (λ j. K.one) B (λ j l. K.one_not_zero) (λ j l i h. s j l i h ∙ sym (one_times K (q j i)))

  -- one word more, and the new row that is made of its vector
  pub basis_grow : (d n : ℕ) (r : Word → ℕ → V) (words : ℕ → Word) (q q' : ℕ → ℕ → V) (p p' : ℕ → ℕ) (x : Word) (b : ℕ) → Basis K (λ i. i < d) r n words q p
      → NewRow K d n q p (r x) b (q' n) → ((j : ℕ) → j < n → Agree d (q' j) (q j)) → ((j : ℕ) → j < n → p' j ≡ p j) → p' n ≡ b
      → Basis K (λ i. i < d) r (suc n) (updated n words x) q' p'
  basis_grow d n r words q q' p p' x b B w same ps here =
      basis_times K (λ i. i < d) r (suc n) (updated n words x) (updated n q y) q' p' c
      (basis_more K (λ i. i < d) r n words (updated n words x) q (updated n q y) p p' x y B w.remainder.taken w.remainder.cleared
      (λ i l. updated_other n words x i (omega arith)) (updated_here n words x)
      (λ i l j h. ap (λ f. f j) (updated_other n q y i (omega arith))) (λ j h. ap (λ f. f j) (updated_here n q y))
      ps (subst (λ e. e < d) (sym here) w.within) (λ z. w.apart (ap y (sym here) ∙ z)))
      (λ j l. factors j (ℕ_discrete j n)) (λ j l i h. entries j i h (ℕ_discrete j n) l)
    where
      y : ℕ → V
      y = w.rest

      -- what each row is multiplied by
      c : ℕ → V
      c = updated n (λ j. K.one) (K.inverse (w.rest b))

      factors : (j : ℕ) → Dec (j ≡ n) → c j ≢ K.zero
      factors j (yes e) z = inverse_apart (w.rest b) w.apart (sym (updated_here n (λ j. K.one) (K.inverse (w.rest b))) ∙ ap c (sym e) ∙ z)
      factors j (no u) z = K.one_not_zero (sym (updated_other n (λ j. K.one) (K.inverse (w.rest b)) j u) ∙ z)

      entries : (j i : ℕ) → i < d → Dec (j ≡ n) → j < suc n → q' j i ≡ K.times (c j) (updated n q w.rest j i)
      entries j i h (yes e) l =
          ap (λ m. q' m i) e ∙ w.scaled i h
          ∙ sym (ap (λ m. K.times (c m) (updated n q w.rest m i)) e
          ∙ ap (λ f. K.times f (updated n q w.rest n i)) (updated_here n (λ j. K.one) (K.inverse (w.rest b)))
          ∙ ap (λ f. K.times (K.inverse (w.rest b)) (f i)) (updated_here n q w.rest))
      entries j i h (no u) l =
          same j (omega arith) i h ∙ sym (one_times K (q j i))
          ∙ sym (ap (λ f. K.times f (updated n q w.rest j i)) (updated_other n (λ j. K.one) (K.inverse (w.rest b)) j u) ∙ ap (λ f. K.times K.one (f i)) (updated_other n q w.rest j u))
