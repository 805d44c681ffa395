-- Lists by place. Assumes nothing.
use Rattle.std.proofs.Common.{◌≡◌, ℕ, zero, suc, ◌+◌, ◌<◌, ◌≤◌, ◌≢◌, ◌⊎◌, List, length, refl, ap, inl, inr, arith}
use native.Mathlib.Decide.{dec_le, dec_lt}
use Rattle.std.proofs.lemmas.List.{length-set, get_or-set_same, get_or-set_other, get_or_past}
use Rattle.book.specs.Shelves.{Place, at_place, with_place, begins}

pub place? : (p : ℕ) → Dec (Place p)
place? p = go (dec_le 1 p) (dec_le p 8)
  where
    go : Dec (1 ≤ p) → Dec (p ≤ 8) → Dec (Place p)
    go (yes h) (yes l) = yes (h, l)
    go (yes h) (no u) = no (λ o. u o.1)
    go (no u) l = no (λ o. u o.0)

module _ {X : Type 0} (d : X) (xs : List X) where
  pub at_same : (p : ℕ) (x : X) → Place p → length xs ≡ 8 → at_place d (with_place xs p x) p ≡ x
  at_same zero x l e = absurd (omega arith)
  at_same (suc i) x l e = get_or-set_same xs i x d (omega arith)

  pub at_other : (p q : ℕ) (x : X) → q ≢ p → at_place d (with_place xs p x) q ≡ at_place d xs q
  at_other zero q x u = refl
  at_other (suc i) zero x u = refl
  at_other (suc i) (suc j) x u = get_or-set_other xs i j x d (λ e. u (ap suc e))

  pub at_outside : (p : ℕ) → ¬ (Place p) → length xs ≡ 8 → at_place d xs p ≡ d
  at_outside zero u e = refl
  at_outside (suc i) u e = get_or_past xs i d (past (dec_lt i 8))
    where
      past : Dec (i < 8) → length xs ≤ i
      past (yes l) = absurd (u (omega arith, omega arith))
      past (no h) = omega arith

pub length_with : {X : Type 0} (xs : List X) (p : ℕ) (x : X) → length (with_place xs p x) ≡ length xs
length_with xs zero x = refl
length_with xs (suc i) x = length-set xs i x

-- the room of one place lies apart from that of another
pub apart : (p q i m : ℕ) → Place p → Place q → q ≢ p → m ≤ 1568 → begins p ≤ i → i < begins p + 1568 → (i < begins q) ⊎ (begins q + m ≤ i)
apart p q i m a b u l lo hi = go (dec_lt i (begins q))
  where
    go : Dec (i < begins q) → (i < begins q) ⊎ (begins q + m ≤ i)
    go (yes h) = inl h
    go (no h) = inr (omega arith)
