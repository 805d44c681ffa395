-- Numbers below n as a list, and two vectors side by side. Assumes nothing.
use Rattle.std.proofs.Common.{◌≡◌, ℕ, zero, suc, ◌+◌, ◌-◌, ◌<◌, ◌⊎◌, List, [], ◌∷◌, length, refl, ap, subst, inl, inr, suc-add, zero-add, below_more, arith}
use native.Mathlib.Decide.{dec_lt}
use Rattle.series.specs.Tables.{beside}
use Rattle.series.proofs.Lists.{Among}

-- the numbers below n
unfoldable pub range : ℕ → List ℕ
range zero = []
range (suc n) = n ∷ range n

pub range_length : (n : ℕ) → length (range n) ≡ n
unfolding range
range_length zero = refl
range_length (suc n) = ap suc (range_length n)

pub range_has : (n i : ℕ) → i < n → Among (range n) i
unfolding range
range_has zero i l = absurd (omega arith)
range_has (suc n) i l = go (dec_lt i n) (λ h. range_has n i h)
  where
    go : Dec (i < n) → (i < n → Among (range n) i) → (i ≡ n) ⊎ Among (range n) i
    go (yes h) before = inr (before h)
    go (no u) before = inl (omega arith)

pub range_are : (n i : ℕ) → Among (range n) i → i < n
unfolding range
range_are zero i h = absurd h
range_are (suc n) i (inl e) = omega arith
range_are (suc n) i (inr h) = let r = range_are n i h in omega arith

-- what holds below n and at n holds below n + 1
pub below_next : (Q : ℕ → Type 0) (n : ℕ) → ((i : ℕ) → i < n → Q i) → Q n → (i : ℕ) → i < suc n → Q i
below_next Q n before here i l = below_more Q n before here i (omega arith)

-- a decidable property holds of all numbers below n, or fails at one of them
pub bounded : (n : ℕ) (Q : ℕ → Type 0) → ((i : ℕ) → Dec (Q i)) → ((i : ℕ) → i < n → Q i) ⊎ ((i : ℕ) × (i < n) × (¬ (Q i)))
bounded zero Q decide = inl (λ i l. absurd (omega arith))
bounded (suc n) Q decide = go (bounded n Q decide) (decide n)
  where
    go : ((i : ℕ) → i < n → Q i) ⊎ ((i : ℕ) × (i < n) × (¬ (Q i))) → Dec (Q n) → ((i : ℕ) → i < suc n → Q i) ⊎ ((i : ℕ) × (i < suc n) × (¬ (Q i)))
    go (inr r) d = inr (r.0, omega (arith, r.1), r.2)
    go (inl h) (no u) = inr (n, omega arith, u)
    go (inl h) (yes q) = inl (below_next Q n h q)

-- what holds on the left and on the right holds below n + m
pub both_parts : (n m : ℕ) (Q : ℕ → Type 0) → ((i : ℕ) → i < n → Q i) → ((i : ℕ) → i < m → Q (n + i)) → (i : ℕ) → i < n + m → Q i
both_parts n m Q f g i l = go (dec_lt i n)
  where
    go : Dec (i < n) → Q i
    go (yes h) = f i h
    go (no u) = let e : n + (i - n) ≡ i = omega arith in subst Q e (g (i - n) (omega arith))

module _ {V : Type 0} where
  pub beside_left : (n : ℕ) (x y : ℕ → V) (i : ℕ) → i < n → beside n x y i ≡ x i
  beside_left zero x y i l = absurd (omega arith)
  beside_left (suc n) x y zero l = refl
  beside_left (suc n) x y (suc i) l = beside_left n (λ j. x (suc j)) y i (omega arith)

  pub beside_right : (n : ℕ) (x y : ℕ → V) (i : ℕ) → beside n x y (n + i) ≡ y i
  beside_right zero x y i = rw zero-add refl
  beside_right (suc n) x y i = rw suc-add (beside_right n (λ j. x (suc j)) y i)
