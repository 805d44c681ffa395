-- Shortlex has the laws of a word order. The one file that opens the order's definition. Assumes nothing.
use Rattle.std.proofs.Common.{◌≡◌, ℕ, zero, suc, ◌<◌, ◌⊎◌, [], ◌∷◌, ◌++◌, length, sym, refl, ap, ◌∙◌, subst, ap₂, inl, inr, arith, length-append}
use mathlib.Core.WellFounded.{Acc, induction}
use lib.WfN.{lt-wf_rel}
use native.Mathlib.Decide.{dec_lt}
use native.Mathlib.Nat.{suc_inj}
use Rattle.series.specs.Words.{Word, Smaller, ◌≺◌}
use Rattle.series.specs.WordOrders.{WordOrder}

smaller_self : (w : Word) → ¬ (Smaller w w)
smaller_self [] b = b
smaller_self (a ∷ w) (inl l) = absurd (omega arith)
smaller_self (a ∷ w) (inr b) = smaller_self w b.1

irreflexive : (w : Word) → ¬ (w ≺ w)
unfolding ◌≺◌
irreflexive w (inl l) = absurd (omega arith)
irreflexive w (inr b) = smaller_self w b.1

smaller_trans : (u v w : Word) → Smaller u v → Smaller v w → Smaller u w
smaller_trans [] v w b c = b
smaller_trans (x ∷ u) [] w b c = absurd b
smaller_trans (x ∷ u) (y ∷ v) [] b c = c
smaller_trans (x ∷ u) (y ∷ v) (z ∷ w) (inl b) (inl c) = inl (omega arith)
smaller_trans (x ∷ u) (y ∷ v) (z ∷ w) (inl b) (inr c) = inl (omega arith)
smaller_trans (x ∷ u) (y ∷ v) (z ∷ w) (inr b) (inl c) = inl (omega arith)
smaller_trans (x ∷ u) (y ∷ v) (z ∷ w) (inr b) (inr c) = inr (b.0 ∙ c.0, smaller_trans u v w b.1 c.1)

transitive : (u v w : Word) → u ≺ v → v ≺ w → u ≺ w
unfolding ◌≺◌
transitive u v w (inl b) (inl c) = inl (omega arith)
transitive u v w (inl b) (inr c) = inl (omega arith)
transitive u v w (inr b) (inl c) = inl (omega arith)
transitive u v w (inr b) (inr c) = inr (b.0 ∙ c.0, smaller_trans u v w b.1 c.1)

smaller_compare : (u v : Word) → length u ≡ length v → Smaller u v ⊎ ((u ≡ v) ⊎ Smaller v u)
smaller_compare [] [] e = inr (inl refl)
smaller_compare [] (b ∷ v) e = absurd (omega arith)
smaller_compare (a ∷ u) [] e = absurd (omega arith)
smaller_compare (a ∷ u) (b ∷ v) e = go (dec_lt a b) (dec_lt b a) (smaller_compare u v (suc_inj e))
  where
    go : Dec (a < b) → Dec (b < a) → Smaller u v ⊎ ((u ≡ v) ⊎ Smaller v u) → Smaller (a ∷ u) (b ∷ v) ⊎ (((a ∷ u) ≡ (b ∷ v)) ⊎ Smaller (b ∷ v) (a ∷ u))
    go (yes l) d c = inl (inl l)
    go (no l) (yes g) c = inr (inr (inl g))
    go (no l) (no g) (inl c) = inl (inr (omega arith, c))
    go (no l) (no g) (inr (inl s)) = let e : a ≡ b = omega arith in inr (inl (ap₂ ◌∷◌ e s))
    go (no l) (no g) (inr (inr c)) = inr (inr (inr (omega arith, c)))

compare : (u v : Word) → (u ≺ v) ⊎ ((u ≡ v) ⊎ (v ≺ u))
unfolding ◌≺◌
compare u v = go (dec_lt (length u) (length v)) (dec_lt (length v) (length u))
  where
    same : length u ≡ length v → Smaller u v ⊎ ((u ≡ v) ⊎ Smaller v u) → (u ≺ v) ⊎ ((u ≡ v) ⊎ (v ≺ u))
    same e (inl b) = inl (inr (e, b))
    same e (inr (inl s)) = inr (inl s)
    same e (inr (inr b)) = inr (inr (inr (sym e, b)))

    go : Dec (length u < length v) → Dec (length v < length u) → (u ≺ v) ⊎ ((u ≡ v) ⊎ (v ≺ u))
    go (yes l) d = inl (inl l)
    go (no l) (yes g) = inr (inr (inl g))
    go (no l) (no g) = let e : length u ≡ length v = omega arith in same e (smaller_compare u v e)

smaller_append : (u v : Word) (a b : ℕ) → Smaller u v → Smaller (u ++ a ∷ []) (v ++ b ∷ [])
smaller_append [] v a b h = absurd h
smaller_append (x ∷ u) [] a b h = absurd h
smaller_append (x ∷ u) (y ∷ v) a b (inl h) = inl h
smaller_append (x ∷ u) (y ∷ v) a b (inr h) = inr (h.0, smaller_append u v a b h.1)

append : (u v : Word) (a b : ℕ) → u ≺ v → (u ++ a ∷ []) ≺ (v ++ b ∷ [])
unfolding ◌≺◌
append u v a b (inl h) = inl (simp length-append (omega arith))
append u v a b (inr h) = inr (simp length-append (omega arith), smaller_append u v a b h.1)

smaller_last : (u : Word) (a b : ℕ) → a < b → Smaller (u ++ a ∷ []) (u ++ b ∷ [])
smaller_last [] a b l = inl l
smaller_last (x ∷ u) a b l = inr (refl, smaller_last u a b l)

last : (u : Word) (a b : ℕ) → a < b → (u ++ a ∷ []) ≺ (u ++ b ∷ [])
unfolding ◌≺◌
last u a b l = inr (simp length-append (omega arith), smaller_last u a b l)

-- what holds of a number wherever it holds of all below it, holds of every number
strong : (Q : ℕ → Type 0) → ((n : ℕ) → ((m : ℕ) → m < n → Q m) → Q n) → (n : ℕ) → Q n
strong Q h n = induction lt-wf_rel.wf n h

-- induction along the words of one length
same_length : (n : ℕ) (Q : Word → Type 0) → ((w : Word) → length w ≡ n → ((u : Word) → length u ≡ n → Smaller u w → Q u) → Q w) → (w : Word) → length w ≡ n → Q w
same_length zero Q h [] e = h [] e (λ u f b. elim u as (λ v. Smaller v [] → Q v) [ [] ↦ (λ c. absurd c) | x ∷ v ↦ (λ c. absurd c) ] b)
same_length zero Q h (a ∷ w) e = absurd (omega arith)
same_length (suc n) Q h [] e = absurd (omega arith)
same_length (suc n) Q h (a ∷ w) e =
    strong (λ b. (v : Word) → length v ≡ n → Q (b ∷ v))
    (λ b smaller. same_length n (λ v. Q (b ∷ v)) (λ v f before. h (b ∷ v) (ap suc f) (step b v smaller before)))
    a w (suc_inj e)
  where
    step : (b : ℕ) (v : Word) → ((c : ℕ) → c < b → (u : Word) → length u ≡ n → Q (c ∷ u)) → ((u : Word) → length u ≡ n → Smaller u v → Q (b ∷ u)) → (u : Word) → length u ≡ suc n
        → Smaller u (b ∷ v) → Q u
    step b v smaller before [] f l = absurd l
    step b v smaller before (c ∷ u) f (inl l) = smaller c l u (suc_inj f)
    step b v smaller before (c ∷ u) f (inr l) = subst (λ x. Q (x ∷ u)) (sym l.0) (before u (suc_inj f) l.1)

descent_ends : (w : Word) → Acc ◌≺◌ w
unfolding ◌≺◌
descent_ends w =
    strong (λ n. (v : Word) → length v ≡ n → Acc ◌≺◌ v)
    (λ n shorter. same_length n (Acc ◌≺◌) (λ v e before. Acc.intro v (λ u. elim [ inl l ↦ shorter (length u) (omega arith) u refl | inr l ↦ before u (l.0 ∙ e) l.1 ])))
    (length w) w refl

pub shortlex : WordOrder ◌≺◌
unfolding ◌≺◌
shortlex = record {
  irreflexive = irreflexive;
  transitive = transitive;
  compare = compare;
  shorter = λ u v l. inl l;
  append = append;
  last = last;
  descent_ends = descent_ends;
}
