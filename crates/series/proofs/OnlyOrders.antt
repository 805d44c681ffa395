-- An order with the laws of a word order is shortlex. Assumes nothing.
use Rattle.std.proofs.Common.{◌≡◌, ℕ, zero, suc, ◌+◌, ◌<◌, ◌≤◌, ◌⊎◌, [], ◌∷◌, ◌++◌, length, sym, ap, ◌∙◌, subst, inl, inr, arith, length-append}
use native.Mathlib.Decide.{dec_lt}
use Rattle.series.specs.Words.{Word, ◌≺◌}
use Rattle.series.specs.WordOrders.{WordOrder}
use Rattle.series.proofs.Orders.{≺-push-back, ≺-compare, none_before}
use Rattle.series.proofs.Words.{last_letter}

module _ (B : Word → Word → Type 0) (o : WordOrder B) where
  Below : ℕ → Type 0
  Below n = (s t : Word) → length t < n → s ≺ t → B s t

  pushed : (n : ℕ) → Below n → (s t : Word) (a b : ℕ) → length t < n → (s ≺ t) ⊎ ((s ≡ t) × (a < b)) → B (s ++ a ∷ []) (t ++ b ∷ [])
  unfolding Below
  pushed n ih s t a b k (inl g) = o.append s t a b (ih s t k g)
  pushed n ih s t a b k (inr e) = subst (λ x. B (s ++ a ∷ []) (x ++ b ∷ [])) e.0 (o.last s a b e.1)

  split : (n : ℕ) → Below n → (u v : Word) → length v ≤ n → u ≺ v → Dec (length u < length v) → (u ≡ []) ⊎ ((s : Word) × (a : ℕ) × (u ≡ s ++ a ∷ [])) → (v ≡ []) ⊎ ((t : Word) × (b : ℕ) × (v ≡ t ++ b ∷ [])) → B u v
  split n ih u v k l (yes g) x y = o.shorter u v g
  split n ih u v k l (no g) x (inl e) = absurd (none_before u (subst (λ z. u ≺ z) e l))
  split n ih u v k l (no g) (inl e) (inr y) =
      let f : length v ≡ length y.0 + 1 = ap length y.2 ∙ length-append y.0 (y.1 ∷ []) in
      let z : length u ≡ 0 = ap length e in
      absurd (g (omega arith))
  split n ih u v k l (no g) (inr x) (inr y) =
      let f : length v ≡ length y.0 + 1 = ap length y.2 ∙ length-append y.0 (y.1 ∷ []) in
      subst (λ z. B z v) (sym x.2) (subst (λ z. B (x.0 ++ x.1 ∷ []) z) (sym y.2)
      (pushed n ih x.0 y.0 x.1 y.1 (omega arith) (≺-push-back x.0 y.0 x.1 y.1 (subst (λ z. (x.0 ++ x.1 ∷ []) ≺ z) y.2 (subst (λ z. z ≺ v) x.2 l)))))

  below : (n : ℕ) → Below n
  unfolding Below
  below zero s t k l = absurd (omega arith)
  below (suc n) s t k l = split n (below n) s t (omega arith) l (dec_lt (length s) (length t)) (last_letter s) (last_letter t)

  pub forth : (u v : Word) → u ≺ v → B u v
  unfolding Below
  forth u v l = below (suc (length v)) u v (omega arith) l

  pub back : (u v : Word) → B u v → u ≺ v
  back u v b = go (≺-compare u v)
    where
      go : (u ≺ v) ⊎ ((u ≡ v) ⊎ (v ≺ u)) → u ≺ v
      go (inl l) = l
      go (inr (inl e)) = absurd (o.irreflexive v (subst (λ z. B z v) e b))
      go (inr (inr g)) = absurd (o.irreflexive u (o.transitive u v u b (forth v u g)))
