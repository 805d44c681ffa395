-- What the laws of the order of words give; no proof but that of the laws opens the order. Assumes nothing.
use Rattle.std.proofs.Common.{◌≡◌, ℕ, ◌<◌, ◌≤◌, ◌⊎◌, [], ◌∷◌, ◌++◌, length, sym, ap, ◌∙◌, subst, inl, inr, arith, length-append}
use mathlib.Core.WellFounded.{induction}
use native.Mathlib.Decide.{dec_lt}
use Rattle.series.specs.Words.{Word, ◌≺◌}
use Rattle.series.proofs.Shortlex.{shortlex}

pub ≺-irreflexive : (w : Word) → ¬ (w ≺ w)
≺-irreflexive = shortlex.irreflexive

pub ≺-transitive : (u v w : Word) → u ≺ v → v ≺ w → u ≺ w
≺-transitive = shortlex.transitive

pub ≺-compare : (u v : Word) → (u ≺ v) ⊎ ((u ≡ v) ⊎ (v ≺ u))
≺-compare = shortlex.compare

pub ≺-shorter : (u v : Word) → length u < length v → u ≺ v
≺-shorter = shortlex.shorter

-- a letter more on both
pub ≺-push : (u v : Word) (a b : ℕ) → u ≺ v → (u ++ a ∷ []) ≺ (v ++ b ∷ [])
≺-push = shortlex.append

-- a larger letter at the end
pub ≺-last : (u : Word) (a b : ℕ) → a < b → (u ++ a ∷ []) ≺ (u ++ b ∷ [])
≺-last = shortlex.last

-- what holds of a word wherever it holds of all before it, holds of every word
pub ≺-induction : (Q : Word → Type 0) → ((w : Word) → ((u : Word) → u ≺ w → Q u) → Q w) → (w : Word) → Q w
≺-induction Q h w = induction (record { apply = shortlex.descent_ends }) w h

-- a word in place of the same
pub same_before : {u v : Word} (w : Word) → u ≡ v → v ≺ w → u ≺ w
same_before w e l = subst (λ x. x ≺ w) (sym e) l

pub before_same : (u : Word) {v w : Word} → u ≺ v → v ≡ w → u ≺ w
before_same u l e = subst (λ x. u ≺ x) e l

pub upto_before : (t u w : Word) → (t ≡ u) ⊎ (t ≺ u) → u ≺ w → t ≺ w
upto_before t u w (inl e) l = same_before w e l
upto_before t u w (inr g) l = ≺-transitive t u w g l

pub both_ways : (u v : Word) → u ≺ v → v ≺ u → ⊥
both_ways u v l g = ≺-irreflexive u (≺-transitive u v u l g)

pub same_not : (u v : Word) → u ≡ v → u ≺ v → ⊥
same_not u v e l = ≺-irreflexive v (same_before _ (sym e) l)

pub ≺-decide : (u v : Word) → Dec (u ≺ v)
≺-decide u v = go (≺-compare u v)
  where
    go : (u ≺ v) ⊎ ((u ≡ v) ⊎ (v ≺ u)) → Dec (u ≺ v)
    go (inl l) = yes l
    go (inr (inl e)) = no (same_not u v e)
    go (inr (inr g)) = no (λ l. both_ways u v l g)

-- a prefix of a word is before it
pub ≺-longer : (w : Word) (a : ℕ) (v : Word) → w ≺ (w ++ a ∷ v)
≺-longer w a v = ≺-shorter w (w ++ a ∷ v) (simp length-append (omega arith))

-- the empty word is before a word with a last letter
pub ≺-nonempty : (u : Word) (a : ℕ) → [] ≺ (u ++ a ∷ [])
≺-nonempty u a = ≺-shorter [] (u ++ a ∷ []) (simp length-append (omega arith))

pub no_longer : (u w : Word) → u ≺ w → length u ≤ length w
no_longer u w l = go (dec_lt (length w) (length u))
  where
    go : Dec (length w < length u) → length u ≤ length w
    go (yes h) = absurd (both_ways u w l (≺-shorter w u h))
    go (no h) = omega arith

pub none_before : (u : Word) → ¬ (u ≺ [])
none_before [] l = ≺-irreflexive [] l
none_before (a ∷ u) l = both_ways (a ∷ u) [] l (≺-shorter [] (a ∷ u) (omega arith))

-- a last letter taken from both
pub ≺-push-back : (u v : Word) (a b : ℕ) → (u ++ a ∷ []) ≺ (v ++ b ∷ []) → (u ≺ v) ⊎ ((u ≡ v) × (a < b))
≺-push-back u v a b l = go (≺-compare u v) (dec_lt a b) (dec_lt b a)
  where
    go : (u ≺ v) ⊎ ((u ≡ v) ⊎ (v ≺ u)) → Dec (a < b) → Dec (b < a) → (u ≺ v) ⊎ ((u ≡ v) × (a < b))
    go (inl h) d e = inl h
    go (inr (inr h)) d e = absurd (both_ways (u ++ a ∷ []) (v ++ b ∷ []) l (≺-push v u b a h))
    go (inr (inl s)) (yes d) e = inr (s, d)
    go (inr (inl s)) (no d) (yes e) = absurd (both_ways (u ++ a ∷ []) (v ++ b ∷ []) l (same_before _ (ap (λ x. x ++ b ∷ []) (sym s)) (≺-last u b a e)))
    go (inr (inl s)) (no d) (no e) = let f : a ≡ b = omega arith in absurd (same_not (u ++ a ∷ []) (v ++ b ∷ []) (ap (λ x. x ++ a ∷ []) s ∙ ap (λ c. v ++ c ∷ []) f) l)
