-- Words counted off in order: their number, the first of them, and those with one letter more. Assumes nothing.
use Rattle.std.proofs.Common.{◌≡◌, ℕ, zero, suc, ◌+◌, ◌*◌, ◌/◌, ◌%◌, ◌<◌, ◌≤◌, ◌⊎◌, [], ◌∷◌, ◌++◌, sym, refl, ap, ◌∙◌, subst, inl, inr, add-suc, mod-lt, mul-zero, div-add-mod', arith}
use native.Mathlib.Decide.{dec_lt, ℕ_discrete}
use lib.Arith.{digits_div, digits_mod}
use Rattle.std.proofs.lemmas.Nat.{mul-le}
use Rattle.series.specs.Words.{Word, ◌≺◌}
use Rattle.series.specs.Listing.{Listed}
use Rattle.series.specs.Comparing.{Followed}
use Rattle.series.proofs.Orders.{≺-push, ≺-last, ≺-nonempty, both_ways, same_not, none_before, same_before, before_same}

-- the same words by another name
pub listed_same : (Good Also : Word → Type 0) → ((v : Word) → Good v → Also v) → ((v : Word) → Also v → Good v) → {n : ℕ} {words : ℕ → Word} → Listed Good n words → Listed Also n words
listed_same Good Also to of {n} {words} s = record { ascends = s.ascends; good = λ i l. to (words i) (s.good i l); whole = λ v h. s.whole v (of v h) }

-- the order of the words is that of their numbers
pub number_less : (n : ℕ) (words : ℕ → Word) → ((i j : ℕ) → i < j → j < n → words i ≺ words j) → (i j : ℕ) → i < n → j < n → words i ≺ words j → i < j
number_less n words rises i j b c l = go (dec_lt i j) (ℕ_discrete i j)
  where
    go : Dec (i < j) → Dec (i ≡ j) → i < j
    go (yes h) d = h
    go (no h) (yes e) = absurd (same_not (words i) (words j) (ap words e) l)
    go (no h) (no u) = absurd (both_ways (words i) (words j) l (rises j i (omega arith) b))

-- the empty word, if it is among them, is the first
pub first_empty : (Good : Word → Type 0) (n : ℕ) (words : ℕ → Word) → Listed Good n words → Good [] → (0 < n) × (words 0 ≡ [])
first_empty Good n words s g = let r = s.whole [] g in (omega (arith, r.1), at r.0 r.1 r.2)
  where
    at : (i : ℕ) → i < n → [] ≡ words i → words 0 ≡ []
    at zero l e = sym e
    at (suc i) l e = absurd (none_before (words 0) (before_same _ (s.ascends 0 (suc i) (omega arith) l) (sym e)))

-- two ways to count off the same words
module _ (Good : Word → Type 0) (n m : ℕ) (xs ys : ℕ → Word) (X : Listed Good n xs) (Y : Listed Good m ys) where
  same_step : (i : ℕ) → ((j : ℕ) → j < i → xs j ≡ ys j) → i < n → (i < m) × (xs i ≡ ys i)
  same_step i before l = go (dec_lt a.0 i) (ℕ_discrete a.0 i)
    where
      a : (j : ℕ) × (j < m) × (xs i ≡ ys j)
      a = Y.whole (xs i) (X.good i l)

      low : a.0 < i → ⊥
      low h = same_not (xs a.0) (xs i) (before a.0 h ∙ sym a.2) (X.ascends a.0 i h l)

      high : (h : i < a.0) → ⊥
      high h = top (X.whole (ys i) (Y.good i (omega (arith, a.1))))
        where
          up : ys i ≺ xs i
          up = before_same _ (Y.ascends i a.0 h a.1) (sym a.2)

          top : (j : ℕ) × (j < n) × (ys i ≡ xs j) → ⊥
          top b = cases (dec_lt b.0 i) (ℕ_discrete b.0 i)
            where
              cases : Dec (b.0 < i) → Dec (b.0 ≡ i) → ⊥
              cases (yes d) e = same_not (ys b.0) (ys i) (sym (before b.0 d) ∙ sym b.2) (Y.ascends b.0 i d (omega (arith, a.1)))
              cases (no d) (yes e) = same_not (ys i) (xs i) (b.2 ∙ ap xs e) up
              cases (no d) (no e) = both_ways (xs i) (xs b.0) (X.ascends i b.0 (omega arith) b.1) (same_before _ (sym b.2) up)

      go : Dec (a.0 < i) → Dec (a.0 ≡ i) → (i < m) × (xs i ≡ ys i)
      go (yes h) d = absurd (low h)
      go (no h) (yes e) = (omega (arith, a.1), a.2 ∙ ap ys e)
      go (no h) (no e) = absurd (high (omega arith))

  same_below : (b i : ℕ) → i < b → i < n → (i < m) × (xs i ≡ ys i)
  same_below zero i h l = absurd (omega arith)
  same_below (suc b) i h l = same_step i (λ j q. (same_below b j (omega arith) (omega arith)).1) l

  pub same_words : (i : ℕ) → i < n → (i < m) × (xs i ≡ ys i)
  same_words i l = same_below (suc i) i (omega arith) l

-- their number is one only
pub count_unique : (Good : Word → Type 0) (n m : ℕ) (xs ys : ℕ → Word) → Listed Good n xs → Listed Good m ys → n ≡ m
count_unique Good n m xs ys X Y = go (dec_lt n m) (dec_lt m n)
  where
    go : Dec (n < m) → Dec (m < n) → n ≡ m
    go (yes l) q = absurd (omega (arith, (same_words Good m n ys xs Y X n l).0))
    go (no u) (yes l) = absurd (omega (arith, (same_words Good n m xs ys X Y m l).0))
    go (no u) (no v) = omega arith

-- the first m + 1 of them are those up to the word m
pub listed_upto : (Good : Word → Type 0) (n : ℕ) (words : ℕ → Word) → Listed Good n words → (m : ℕ) → m < n → Listed (λ v. Good v × ((v ≺ words m) ⊎ (v ≡ words m))) (suc m) words
listed_upto Good n words s m l = record {
  ascends = λ i j h b. s.ascends i j h (omega arith);
  good = λ i b. (s.good i (omega arith), under i (ℕ_discrete i m) b);
  whole = λ v h. let r = s.whole v h.0 in (r.0, inside v r.0 r.1 r.2 h.1, r.2);
}
  where
    under : (i : ℕ) → Dec (i ≡ m) → i < suc m → (words i ≺ words m) ⊎ (words i ≡ words m)
    under i (yes e) b = inr (ap words e)
    under i (no u) b = inl (s.ascends i m (omega arith) l)

    inside : (v : Word) (i : ℕ) → i < n → v ≡ words i → (v ≺ words m) ⊎ (v ≡ words m) → i < suc m
    inside v i b e h = go (dec_lt m i)
      where
        over : m < i → (v ≺ words m) ⊎ (v ≡ words m) → ⊥
        over g (inl q) = both_ways (words m) (words i) (s.ascends m i g b) (same_before _ (sym e) q)
        over g (inr q) = same_not (words m) (words i) (sym q ∙ e) (s.ascends m i g b)

        go : Dec (m < i) → i < suc m
        go (yes g) = absurd (over g h)
        go (no g) = omega arith

-- the words with one letter of 1 to k more, and the empty word
module _ (k : ℕ) where
  -- by number: the empty word, then the words in order, each with the letters in order
  pub followed_list : (ℕ → Word) → ℕ → Word
  followed_list words zero = []
  followed_list words (suc m) = words (m / k) ++ suc (m % k) ∷ []

  pub followed_at : (words : ℕ → Word) (i a : ℕ) → 1 ≤ a → a ≤ k → followed_list words (i * k + a) ≡ words i ++ a ∷ []
  unfolding followed_list
  followed_at words i zero l h = absurd (omega arith)
  followed_at words i (suc b) l h =
      ap (followed_list words) (add-suc (i * k) b) ∙ ap (λ n. words n ++ suc ((i * k + b) % k) ∷ []) (digits_div i h) ∙ ap (λ n. words i ++ suc n ∷ []) (digits_mod i h)

  abbrev Place : ℕ → ℕ → Type 0
  Place n m = (m ≡ 0) ⊎ ((j : ℕ) × (b : ℕ) × (j < n) × (1 ≤ b) × (b ≤ k) × (m ≡ j * k + b))

  place : (n m : ℕ) → m < 1 + n * k → Place n m
  place n zero l = inl refl
  place n (suc m) l = go (dec_lt 0 k)
    where
      few : 1 ≤ k → Dec (m / k < n) → m / k < n
      few s (yes h) = h
      few s (no h) = absurd (omega (arith, div-add-mod' m k, mul-le n k (m / k) k (omega arith) (omega arith)))

      go : Dec (0 < k) → Place n (suc m)
      go (yes s) = let b = mod-lt m s in let e = div-add-mod' m k in inr (m / k, suc (m % k), few s (dec_lt (m / k) n), omega arith, omega arith, omega arith)
      go (no u) = let z : k ≡ 0 = omega arith in absurd (omega (arith, ap (λ q. n * q) z, mul-zero n))

  order : (j b i a : ℕ) → 1 ≤ b → a ≤ k → j * k + b < i * k + a → (j < i) ⊎ ((j ≡ i) × (b < a))
  order j b i a l h g = go (dec_lt j i) (ℕ_discrete j i)
    where
      go : Dec (j < i) → Dec (j ≡ i) → (j < i) ⊎ ((j ≡ i) × (b < a))
      go (yes p) q = inl p
      go (no p) (yes q) = let e : j * k ≡ i * k = ap (λ n. n * k) q in inr (q, omega arith)
      go (no p) (no q) = absurd (omega (arith, mul-le (i + 1) k j k (omega arith) (omega arith)))

  -- there are 1 + n k of them, if there are n words
  pub listed_followed : (Good : Word → Type 0) (n : ℕ) (words : ℕ → Word) → Listed Good n words → Listed (Followed k Good) (1 + n * k) (followed_list words)
  unfolding followed_list
  listed_followed Good n words s = record {
    ascends = λ m p l h. rises m p (place n m (omega arith)) (place n p h) l;
    good = λ m h. goods m (place n m h);
    whole = λ v. elim [ inl e ↦ (0, omega arith, e) | inr t ↦ found v t.0 t.1 t.3 t.4 t.5 (s.whole t.0 t.2) ];
  }
    where
      shown : (m j b : ℕ) → 1 ≤ b → b ≤ k → m ≡ j * k + b → followed_list words m ≡ words j ++ b ∷ []
      shown m j b l h e = ap (followed_list words) e ∙ followed_at words j b l h

      first : (m : ℕ) → m ≡ 0 → followed_list words m ≡ []
      first m e = ap (followed_list words) e

      less : (j b i c : ℕ) → 1 ≤ b → c ≤ k → i < n → j * k + b < i * k + c → (words j ++ b ∷ []) ≺ (words i ++ c ∷ [])
      less j b i c l h r g = go (order j b i c l h g)
        where
          go : (j < i) ⊎ ((j ≡ i) × (b < c)) → (words j ++ b ∷ []) ≺ (words i ++ c ∷ [])
          go (inl p) = ≺-push (words j) (words i) b c (s.ascends j i p r)
          go (inr p) = subst (λ q. (words q ++ b ∷ []) ≺ (words i ++ c ∷ [])) (sym p.0) (≺-last (words i) b c p.1)

      rises : (m p : ℕ) → Place n m → Place n p → m < p → followed_list words m ≺ followed_list words p
      rises m p a (inl q) l = absurd (omega arith)
      rises m p (inl a) (inr q) l = same_before _ (first m a) (before_same _ (≺-nonempty (words q.0) q.1) (sym (shown p q.0 q.1 q.3 q.4 q.5)))
      rises m p (inr a) (inr q) l =
          let e = a.5 in let f = q.5 in
          same_before _ (shown m a.0 a.1 a.3 a.4 a.5)
          (before_same _ (less a.0 a.1 q.0 q.1 a.3 q.4 q.2 (omega arith)) (sym (shown p q.0 q.1 q.3 q.4 q.5)))

      goods : (m : ℕ) → Place n m → Followed k Good (followed_list words m)
      goods m (inl e) = inl (first m e)
      goods m (inr a) = inr (words a.0, a.1, s.good a.0 a.2, a.3, a.4, shown m a.0 a.1 a.3 a.4 a.5)

      found : (v u : Word) (a : ℕ) → 1 ≤ a → a ≤ k → v ≡ u ++ a ∷ [] → (i : ℕ) × (i < n) × (u ≡ words i) → (m : ℕ) × (m < 1 + n * k) × (v ≡ followed_list words m)
      found v u a l h e r = (r.0 * k + a, omega (arith, mul-le (r.0 + 1) k n k (omega (arith, r.1)) (omega arith)), e ∙ ap (λ x. x ++ a ∷ []) r.2 ∙ sym (followed_at words r.0 a l h))
