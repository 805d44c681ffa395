-- A walk that tries each word that it has found, in their order, followed by each letter. Assumes nothing.
use Rattle.std.proofs.Common.{◌≡◌, ℕ, suc, ◌+◌, ◌*◌, ◌<◌, ◌≤◌, ◌⊎◌, [], ◌∷◌, ◌++◌, sym, ap, ◌∙◌, subst, inl, inr, arith}
use native.Mathlib.Decide.{dec_lt}
use Rattle.std.proofs.lemmas.Nat.{mul-le}
use Rattle.series.specs.Words.{Word, Over, ◌≺◌}
use Rattle.series.specs.Listing.{Listed}
use Rattle.series.specs.Comparing.{Followed}
use Rattle.series.specs.WalkProgress.{Scanned}
use Rattle.series.proofs.Words.{last_letter, over_rest}
use Rattle.series.proofs.Orders.{≺-transitive, ≺-compare, ≺-push, ≺-last, ≺-push-back, ≺-longer, ≺-nonempty, both_ways, same_not, ≺-induction, none_before, same_before, before_same}
use Rattle.series.proofs.Places.{below_next}
use Rattle.series.proofs.Listings.{number_less, listed_upto, followed_list, followed_at, listed_followed}

module _ (Good : Word → Type 0) where
  -- the first n of words are the good words before x and x, if it is good
  pub record Upto (n : ℕ) (words : ℕ → Word) (x : Word) : Type 0 where
    pub ascends : (i j : ℕ) → i < j → j < n → words i ≺ words j
    pub good : (i : ℕ) → i < n → Good (words i)
    pub before : (i : ℕ) → i < n → (words i ≺ x) ⊎ (words i ≡ x)
    pub whole : (v : Word) → Good v → (v ≺ x) ⊎ (v ≡ x) → (i : ℕ) × (i < n) × (v ≡ words i)

module _ (Good : Word → Type 0) where
  -- before the empty word there is none
  pub scan_none : (words : ℕ → Word) → Scanned Good 0 words []
  scan_none words = record {
    ascends = λ i j l h. absurd (omega arith);
    good = λ i l. absurd (omega arith);
    before = λ i l. absurd (omega arith);
    whole = λ v g l. absurd (none_before v l);
  }

  -- back to the letter before
  pub scan_back : (n : ℕ) (words : ℕ → Word) (u : Word) (a : ℕ) → Scanned Good n words (u ++ suc a ∷ []) → Upto Good n words (u ++ a ∷ [])
  scan_back n words u a s = record {
    ascends = s.ascends;
    good = s.good;
    before = λ i l. back (words i) (last_letter (words i)) (s.before i l);
    whole = λ v g. elim [ inl l ↦ s.whole v g (≺-transitive v (u ++ a ∷ []) (u ++ suc a ∷ []) l up) | inr e ↦ s.whole v g (same_before _ e up) ];
  }
    where
      up : (u ++ a ∷ []) ≺ (u ++ suc a ∷ [])
      up = ≺-last u a (suc a) (omega arith)

      same : (t : Word) (b : ℕ) → t ≡ u → Dec (b < a) → b < suc a → ((t ++ b ∷ []) ≺ (u ++ a ∷ [])) ⊎ ((t ++ b ∷ []) ≡ (u ++ a ∷ []))
      same t b e (yes h) l = inl (subst (λ w. (w ++ b ∷ []) ≺ (u ++ a ∷ [])) (sym e) (≺-last u b a h))
      same t b e (no h) l = let q : b ≡ a = omega arith in inr (ap (λ w. w ++ b ∷ []) e ∙ ap (λ c. u ++ c ∷ []) q)

      step : (t : Word) (b : ℕ) → (t ≺ u) ⊎ ((t ≡ u) × (b < suc a)) → ((t ++ b ∷ []) ≺ (u ++ a ∷ [])) ⊎ ((t ++ b ∷ []) ≡ (u ++ a ∷ []))
      step t b (inl h) = inl (≺-push t u b a h)
      step t b (inr h) = same t b h.0 (dec_lt b a) h.1

      back : (w : Word) → (w ≡ []) ⊎ ((t : Word) × (b : ℕ) × (w ≡ t ++ b ∷ [])) → w ≺ (u ++ suc a ∷ []) → (w ≺ (u ++ a ∷ [])) ⊎ (w ≡ (u ++ a ∷ []))
      back w (inl e) l = inl (same_before _ e (≺-nonempty u a))
      back w (inr r) l = subst (λ x. (x ≺ (u ++ a ∷ [])) ⊎ (x ≡ (u ++ a ∷ []))) (sym r.2) (step r.0 r.1 (≺-push-back r.0 u r.1 (suc a) (same_before _ (sym r.2) l)))

  -- the number of words looked at up to the word i with the letter a, where each good word and the empty word is followed by each letter
  pub scan_followed : (k n : ℕ) (words : ℕ → Word) (i a : ℕ) → i < n → 1 ≤ a → a ≤ k → Scanned Good n words (words i ++ a ∷ [])
      → Upto (Followed k Good) (1 + i * k + a) (followed_list k words) (words i ++ a ∷ [])
  scan_followed k n words i a inside low high s = subst (λ m. Upto (Followed k Good) m (followed_list k words) (words i ++ a ∷ [])) number (record {
    ascends = r.ascends;
    good = λ j l. elim (r.good j l).0 [ inl e ↦ inl e | inr t ↦ inr (t.0, t.1, t.2.0, t.3, t.4, t.5) ];
    before = λ j l. subst (λ w. (followed_list k words j ≺ w) ⊎ (followed_list k words j ≡ w)) here (r.good j l).1;
    whole = λ v g l. r.whole v (elim g [ inl e ↦ inl e | inr t ↦ inr (t.0, t.1, (t.2, under v t.0 t.1 t.5 l), t.3, t.4, t.5) ], subst (λ w. (v ≺ w) ⊎ (v ≡ w)) (sym here) l);
  })
    where
      here : followed_list k words (i * k + a) ≡ words i ++ a ∷ []
      here = followed_at k words i a low high

      number : suc (i * k + a) ≡ 1 + i * k + a
      number = omega arith

      found : Listed (λ v. Good v × (v ≺ (words i ++ a ∷ []))) n words
      found = record { ascends = s.ascends; good = λ j l. (s.good j l, s.before j l); whole = λ v g. s.whole v g.0 g.1 }

      r : Listed (λ v. Followed k (λ u. Good u × (u ≺ (words i ++ a ∷ []))) v × ((v ≺ followed_list k words (i * k + a)) ⊎ (v ≡ followed_list k words (i * k + a))))
          (suc (i * k + a)) (followed_list k words)
      r = listed_upto (Followed k (λ u. Good u × (u ≺ (words i ++ a ∷ [])))) (1 + n * k) (followed_list k words)
          (listed_followed k (λ u. Good u × (u ≺ (words i ++ a ∷ []))) n words found) (i * k + a) (omega (arith, mul-le (i + 1) k n k (omega arith) (omega arith)))

      under : (v u : Word) (b : ℕ) → v ≡ u ++ b ∷ [] → (v ≺ (words i ++ a ∷ [])) ⊎ (v ≡ (words i ++ a ∷ [])) → u ≺ (words i ++ a ∷ [])
      under v u b e (inl l) = ≺-transitive u (u ++ b ∷ []) (words i ++ a ∷ []) (≺-longer u b []) (same_before _ (sym e) l)
      under v u b e (inr q) = before_same _ (≺-longer u b []) (sym e ∙ q)

module _ (k : ℕ) (Good : Word → Type 0) (over : (w : Word) → Good w → Over k w) (front : (u : Word) (a : ℕ) → Good (u ++ a ∷ []) → Good u) where
  -- x is looked at, and is no good
  pub scan_skip : (n : ℕ) (words : ℕ → Word) (x : Word) → Scanned Good n words x → ¬ (Good x) → Upto Good n words x
  scan_skip n words x s u = record {
    ascends = s.ascends;
    good = s.good;
    before = λ i l. inl (s.before i l);
    whole = λ v g. elim [ inl l ↦ s.whole v g l | inr e ↦ absurd (u (subst Good e g)) ];
  }

  -- x is looked at, and is good
  pub scan_add : (n : ℕ) (words more : ℕ → Word) (x : Word) → Scanned Good n words x → Good x → ((i : ℕ) → i < n → more i ≡ words i) → more n ≡ x → Upto Good (suc n) more x
  scan_add n words more x s g same here = record {
    ascends = λ i j l b. below_next (λ m. i < m → more i ≺ more m) n
        (λ m h g. same_before _ (same i (omega arith)) (before_same _ (s.ascends i m g h) (sym (same m h))))
        (λ g. before_same _ (old i g) (sym here)) j b l;
    good = below_next (λ i. Good (more i)) n (λ i b. subst Good (sym (same i b)) (s.good i b)) (subst Good (sym here) g);
    before = below_next (λ i. (more i ≺ x) ⊎ (more i ≡ x)) n (λ i b. inl (old i b)) (inr here);
    whole = λ v h. elim [ inl l ↦ (let r = s.whole v h l in (r.0, omega arith, r.2 ∙ sym (same r.0 r.1))) | inr e ↦ (n, omega arith, e ∙ sym here) ];
  }
    where
      old : (i : ℕ) → i < n → more i ≺ x
      old i b = same_before _ (same i b) (s.before i b)

  -- on to y, if no good word stands between
  onward : (n : ℕ) (words : ℕ → Word) (x y : Word) → Upto Good n words x → x ≺ y → ((v : Word) → Good v → x ≺ v → v ≺ y → ⊥) → Scanned Good n words y
  onward n words x y s l clear = record {
    ascends = s.ascends;
    good = s.good;
    before = λ i b. elim (s.before i b) [ inl h ↦ ≺-transitive (words i) x y h l | inr e ↦ same_before _ e l ];
    whole = λ v g h. go v g h (≺-compare v x);
  }
    where
      go : (v : Word) → Good v → v ≺ y → (v ≺ x) ⊎ ((v ≡ x) ⊎ (x ≺ v)) → (i : ℕ) × (i < n) × (v ≡ words i)
      go v g h (inl b) = s.whole v g (inl b)
      go v g h (inr (inl e)) = s.whole v g (inr e)
      go v g h (inr (inr b)) = absurd (clear v g b h)

  letter_fits : (u : Word) (a : ℕ) → Good (u ++ a ∷ []) → (1 ≤ a) × (a ≤ k)
  letter_fits u a g = let r = over_rest k u (a ∷ []) (over (u ++ a ∷ []) g) in (r.0, r.1)

  -- from the empty word, which is good, to the word 1
  pub scan_first : (words : ℕ → Word) → Good [] → words 0 ≡ [] → Scanned Good 1 words (words 0 ++ 1 ∷ [])
  scan_first words g e = subst (λ v. Scanned Good 1 words (v ++ 1 ∷ [])) (sym e) (onward 1 words [] (1 ∷ []) start (≺-nonempty [] 1) clear)
    where
      start : Upto Good 1 words []
      start = record {
        ascends = λ i j l b. absurd (omega arith);
        good = λ i b. let z : i ≡ 0 = omega arith in subst Good (sym (ap words z ∙ e)) g;
        before = λ i b. let z : i ≡ 0 = omega arith in inr (ap words z ∙ e);
        whole = λ v h. elim [ inl l ↦ absurd (none_before v l) | inr s ↦ (0, omega arith, s ∙ sym e) ];
      }

      clear : (v : Word) → Good v → [] ≺ v → v ≺ (1 ∷ []) → ⊥
      clear v h l b = go (last_letter v)
        where
          go : (v ≡ []) ⊎ ((u : Word) × (a : ℕ) × (v ≡ u ++ a ∷ [])) → ⊥
          go (inl s) = same_not [] v (sym s) l
          go (inr r) = let f = letter_fits r.0 r.1 (subst Good r.2 h) in
              elim (≺-push-back r.0 [] r.1 1 (same_before _ (sym r.2) b)) [ inl q ↦ none_before r.0 q | inr q ↦ absurd (omega arith) ]

  -- to the next letter
  pub scan_letter : (n : ℕ) (words : ℕ → Word) (u : Word) (a : ℕ) → Upto Good n words (u ++ a ∷ []) → Scanned Good n words (u ++ suc a ∷ [])
  scan_letter n words u a s = onward n words (u ++ a ∷ []) (u ++ suc a ∷ []) s (≺-last u a (suc a) (omega arith)) (λ v g l b. go v l b (last_letter v))
    where
      meet : (v : Word) (b : ℕ) → (u ≺ v) ⊎ ((u ≡ v) × (a < b)) → (v ≺ u) ⊎ ((v ≡ u) × (b < suc a)) → ⊥
      meet v b (inl l) (inl g) = both_ways u v l g
      meet v b (inl l) (inr g) = same_not u v (sym g.0) l
      meet v b (inr l) (inl g) = same_not v u (sym l.0) g
      meet v b (inr l) (inr g) = omega arith

      go : (v : Word) → (u ++ a ∷ []) ≺ v → v ≺ (u ++ suc a ∷ []) → (v ≡ []) ⊎ ((t : Word) × (b : ℕ) × (v ≡ t ++ b ∷ [])) → ⊥
      go v l b (inl e) = none_before (u ++ a ∷ []) (before_same _ l e)
      go v l b (inr r) = meet r.0 r.1 (≺-push-back u r.0 a r.1 (before_same _ l r.2))
          (≺-push-back r.0 u r.1 (suc a) (same_before _ (sym r.2) b))

  -- what is good and behind u k is a good word behind u with a letter more
  behind : (u v : Word) → Good v → (u ++ k ∷ []) ≺ v → (t : Word) × (b : ℕ) × (v ≡ t ++ b ∷ []) × Good t × (u ≺ t)
  behind u v g l = go (last_letter v)
    where
      later : (t : Word) (b : ℕ) → b ≤ k → (u ≺ t) ⊎ ((u ≡ t) × (k < b)) → u ≺ t
      later t b f (inl h) = h
      later t b f (inr h) = absurd (omega arith)

      go : (v ≡ []) ⊎ ((t : Word) × (b : ℕ) × (v ≡ t ++ b ∷ [])) → (t : Word) × (b : ℕ) × (v ≡ t ++ b ∷ []) × Good t × (u ≺ t)
      go (inl e) = absurd (none_before (u ++ k ∷ []) (before_same _ l e))
      go (inr r) = let h : Good (r.0 ++ r.1 ∷ []) = subst Good r.2 g in
          (r.0, r.1, r.2, front r.0 r.1 h, later r.0 r.1 (letter_fits r.0 r.1 h).1 (≺-push-back u r.0 k r.1 (before_same _ l r.2)))

  -- to the next word
  pub scan_word : (n : ℕ) (words : ℕ → Word) (i : ℕ) → suc i < n → Upto Good n words (words i ++ k ∷ []) → Scanned Good n words (words (suc i) ++ 1 ∷ [])
  scan_word n words i b s = onward n words (words i ++ k ∷ []) (words (suc i) ++ 1 ∷ []) s (≺-push (words i) (words (suc i)) k 1 (s.ascends i (suc i) (omega arith) b)) clear
    where
      earlier : (t : Word) → t ≺ words (suc i) → (words (suc i) ≺ (words i ++ k ∷ [])) ⊎ (words (suc i) ≡ (words i ++ k ∷ [])) → t ≺ (words i ++ k ∷ [])
      earlier t l (inl h) = ≺-transitive t (words (suc i)) (words i ++ k ∷ []) l h
      earlier t l (inr e) = before_same _ l e

      less : (t : Word) (c : ℕ) → 1 ≤ c → (t ≺ words (suc i)) ⊎ ((t ≡ words (suc i)) × (c < 1)) → t ≺ words (suc i)
      less t c f (inl h) = h
      less t c f (inr h) = absurd (omega arith)

      clear : (v : Word) → Good v → (words i ++ k ∷ []) ≺ v → v ≺ (words (suc i) ++ 1 ∷ []) → ⊥
      clear v g l h =
          let r = behind (words i) v g l in
          let q : r.0 ≺ words (suc i) = less r.0 r.1 (letter_fits r.0 r.1 (subst Good r.2 g)).0
          (≺-push-back r.0 (words (suc i)) r.1 1 (same_before _ (sym r.2) h)) in
          let m = s.whole r.0 r.3 (inl (earlier r.0 q (s.before (suc i) b))) in
          let low : i < m.0 = number_less n words s.ascends i m.0 (omega arith) m.1 (before_same _ r.4 m.2) in
          let high : m.0 < suc i = number_less n words s.ascends m.0 (suc i) m.1 b (same_before _ (sym m.2) q) in
          omega arith

  -- all of them
  pub scan_done : (n : ℕ) (words : ℕ → Word) (i : ℕ) → suc i ≡ n → Upto Good n words (words i ++ k ∷ []) → (v : Word) → Good v → (j : ℕ) × (j < n) × (v ≡ words j)
  scan_done n words i e s v g = go (≺-compare v (words i ++ k ∷ []))
    where
      nothing : (t : Word) → Good t → words i ≺ t → (t ≺ (words i ++ k ∷ [])) ⊎ (t ≡ (words i ++ k ∷ [])) → ⊥
      nothing t h l a = let m = s.whole t h a in let low : i < m.0 = number_less n words s.ascends i m.0 (omega arith) m.1 (before_same _ l m.2) in omega (arith, m.1)

      clear : (t : Word) → Good t → (words i ++ k ∷ []) ≺ t → ⊥
      clear = ≺-induction (λ t. Good t → (words i ++ k ∷ []) ≺ t → ⊥)
          (λ t before h l. let r = behind (words i) t h l in up t before h r.0 r.1 r.2 r.3 r.4 (≺-compare r.0 (words i ++ k ∷ [])))
        where
          up : (t : Word) → ((u : Word) → u ≺ t → Good u → (words i ++ k ∷ []) ≺ u → ⊥) → Good t → (u : Word) (b : ℕ) → t ≡ u ++ b ∷ [] → Good u → words i ≺ u
              → (u ≺ (words i ++ k ∷ [])) ⊎ ((u ≡ (words i ++ k ∷ [])) ⊎ ((words i ++ k ∷ []) ≺ u)) → ⊥
          up t before h u b q f l (inl a) = nothing u f l (inl a)
          up t before h u b q f l (inr (inl a)) = nothing u f l (inr a)
          up t before h u b q f l (inr (inr a)) = before u (before_same _ (≺-longer u b []) (sym q)) f a

      go : (v ≺ (words i ++ k ∷ [])) ⊎ ((v ≡ (words i ++ k ∷ [])) ⊎ ((words i ++ k ∷ []) ≺ v)) → (j : ℕ) × (j < n) × (v ≡ words j)
      go (inl a) = s.whole v g (inl a)
      go (inr (inl a)) = s.whole v g (inr a)
      go (inr (inr a)) = absurd (clear v g a)
