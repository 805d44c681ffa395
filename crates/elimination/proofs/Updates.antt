-- A function changed at one number. Assumes nothing.
use Rattle.std.proofs.Common.{◌≡◌, ℕ, ◌≢◌, refl}
use native.Mathlib.Decide.{ℕ_discrete}

module _ {X : Type 0} (n : ℕ) (f : ℕ → X) (x : X) where
  choose : (i : ℕ) → Dec (i ≡ n) → X
  choose i (yes e) = x
  choose i (no u) = f i

  -- f, but x at n
  pub updated : ℕ → X
  updated i = choose i (ℕ_discrete i n)

  pub updated_here : updated n ≡ x
  unfolding updated choose
  updated_here = go (ℕ_discrete n n)
    where
      go : (d : Dec (n ≡ n)) → choose n d ≡ x
      go (yes e) = refl
      go (no u) = absurd (u refl)

  pub updated_other : (i : ℕ) → i ≢ n → updated i ≡ f i
  unfolding updated choose
  updated_other i l = go (ℕ_discrete i n)
    where
      go : (d : Dec (i ≡ n)) → choose i d ≡ f i
      go (yes e) = absurd (l e)
      go (no u) = refl
