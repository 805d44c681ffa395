-- Laws of sums. Assumes nothing.
use Rattle.std.proofs.Common.{◌≡◌, ℕ, zero, suc, ◌+◌, ◌<◌, ◌≢◌, sym, refl, ap, ◌∙◌, ap₂, add-zero, add-suc, arith}
use native.Mathlib.Decide.{ℕ_discrete}
use Rattle.field.specs.FiniteField.{FiniteField}
use Rattle.field.proofs.Laws.{zero_plus, times_zero, swap_middle}
use Rattle.field.specs.Sums.{sum_below}

module _ {V : Type 0} (K : FiniteField V) where
  infixl 65 ◌⊕◌
  infixl 70 ◌⊗◌
  open K use {plus as ◌⊕◌, times as ◌⊗◌, zero as 𝟘}

  pub sum_zero : (n : ℕ) (f : ℕ → V) → ((i : ℕ) → i < n → f i ≡ 𝟘) → sum_below K n f ≡ 𝟘
  sum_zero zero f h = refl
  sum_zero (suc n) f h = ap₂ ◌⊕◌ (sum_zero n f (λ i l. h i (omega arith))) (h n (omega arith)) ∙ K.plus_zero 𝟘

  pub sum_plus : (n : ℕ) (f g : ℕ → V) → sum_below K n (λ i. f i ⊕ g i) ≡ sum_below K n f ⊕ sum_below K n g
  sum_plus zero f g = sym (K.plus_zero 𝟘)
  sum_plus (suc n) f g = ap (λ w. w ⊕ (f n ⊕ g n)) (sum_plus n f g) ∙ swap_middle K (sum_below K n f) (sum_below K n g) (f n) (g n)

  pub sum_times : (n : ℕ) (c : V) (f : ℕ → V) → sum_below K n (λ i. c ⊗ f i) ≡ c ⊗ sum_below K n f
  sum_times zero c f = sym (times_zero K c)
  sum_times (suc n) c f = ap (λ w. w ⊕ c ⊗ f n) (sum_times n c f) ∙ sym (K.times_plus c (sum_below K n f) (f n))

  pub sum_swap : (n m : ℕ) (f : ℕ → ℕ → V) → sum_below K n (λ i. sum_below K m (λ j. f i j)) ≡ sum_below K m (λ j. sum_below K n (λ i. f i j))
  sum_swap zero m f = sym (sum_zero m (λ j. 𝟘) (λ i l. refl))
  sum_swap (suc n) m f = ap (λ w. w ⊕ sum_below K m (f n)) (sum_swap n m f) ∙ sym (sum_plus m (λ j. sum_below K n (λ i. f i j)) (f n))

  pub sum_one : (n k : ℕ) (f : ℕ → V) → k < n → ((i : ℕ) → i < n → i ≢ k → f i ≡ 𝟘) → sum_below K n f ≡ f k
  sum_one zero k f l h = absurd (omega arith)
  sum_one (suc n) k f l h = go (ℕ_discrete k n) (λ b. sum_one n k f b (λ i m. h i (omega arith)))
    where
      go : Dec (k ≡ n) → (k < n → sum_below K n f ≡ f k) → sum_below K n f ⊕ f n ≡ f k
      go (yes e) before = ap₂ ◌⊕◌ (sum_zero n f (λ i b. h i (omega arith) (omega arith))) (ap f (sym e)) ∙ zero_plus K (f k)
      go (no u) before = ap₂ ◌⊕◌ (before (omega arith)) (h n (omega arith) (λ e. u (sym e))) ∙ K.plus_zero (f k)

  pub sum_split : (n m : ℕ) (f : ℕ → V) → sum_below K (n + m) f ≡ sum_below K n f ⊕ sum_below K m (λ i. f (n + i))
  sum_split n zero f = rw (add-zero, K.plus_zero)
  sum_split n (suc m) f = rw add-suc (ap (λ w. w ⊕ f (n + m)) (sum_split n m f) ∙ K.plus_assoc (sum_below K n f) (sum_below K m (λ i. f (n + i))) (f (n + m)))
