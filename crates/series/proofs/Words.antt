-- Words and their letters. Assumes nothing.
use Rattle.std.proofs.Common.{◌≡◌, ℕ, ◌⊎◌, [], ◌∷◌, ◌++◌, reverse, sym, refl, ap, subst, inl, inr}
use mathlib.Core.List.{reverse-append}
use mathlib.Core.Logic.Dec.{and as both}
use native.Mathlib.Decide.{dec_le, map_dec}
use Rattle.series.specs.Words.{Word, Over}

pub over_append : (k : ℕ) (u v : Word) → Over k u → Over k v → Over k (u ++ v)
over_append k [] v o p = p
over_append k (a ∷ u) v o p = (o.0, o.1, over_append k u v o.2 p)

pub over_prefix : (k : ℕ) (u v : Word) → Over k (u ++ v) → Over k u
over_prefix k [] v o = tt
over_prefix k (a ∷ u) v o = (o.0, o.1, over_prefix k u v o.2)

pub over_rest : (k : ℕ) (u v : Word) → Over k (u ++ v) → Over k v
over_rest k [] v o = o
over_rest k (a ∷ u) v o = over_rest k u v o.2

pub over_decide : (k : ℕ) (w : Word) → Dec (Over k w)
over_decide k [] = yes tt
over_decide k (a ∷ w) = map_dec (λ p. (p.0, p.1.0, p.1.1)) (λ o. (o.0, (o.1, o.2))) (both (dec_le 1 a) (both (dec_le a k) (over_decide k w)))

-- a word is empty, or has a last letter
pub last_letter : (w : Word) → (w ≡ []) ⊎ ((u : Word) × (a : ℕ) × (w ≡ u ++ a ∷ []))
last_letter [] = inl refl
last_letter (a ∷ w) = go (last_letter w)
  where
    go : (w ≡ []) ⊎ ((u : Word) × (b : ℕ) × (w ≡ u ++ b ∷ [])) → ((a ∷ w) ≡ []) ⊎ ((u : Word) × (b : ℕ) × ((a ∷ w) ≡ u ++ b ∷ []))
    go (inl e) = inr ([], a, ap (λ v. a ∷ v) e)
    go (inr r) = inr (a ∷ r.0, r.1, ap (λ v. a ∷ v) r.2)

pub over_reverse : (k : ℕ) (w : Word) → Over k w → Over k (reverse w)
over_reverse k [] o = tt
over_reverse k (a ∷ w) o = subst (Over k) (sym (reverse-append (a ∷ []) w)) (over_append k (reverse w) (a ∷ []) (over_reverse k w o.2) (o.0, o.1, tt))
