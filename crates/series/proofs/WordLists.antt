-- Words over 1 to k as lists: those up to a length, those before a word; the least word of which something holds, and all of them in order. Assumes nothing.
use Rattle.std.proofs.Common.{◌≡◌, ℕ, zero, suc, ◌-◌, ◌<◌, ◌≤◌, ◌⊎◌, List, [], ◌∷◌, ◌++◌, map, length, get_or, sym, refl, ◌∙◌, subst, inl, inr, arith}
use native.Mathlib.Decide.{ℕ_discrete}
use native.Mathlib.Nat.{suc_inj}
use Rattle.series.specs.Words.{Word, Over, ◌≺◌}
use Rattle.series.specs.Listing.{Count}
use Rattle.series.proofs.Places.{range, range_has, range_are}
use Rattle.series.proofs.Lists.{Among, among_left, among_right, among_either, among_map, among_map_back, those, among_those, among_those_back, find}
use Rattle.series.proofs.Orders.{≺-compare, ≺-transitive, ≺-decide, ≺-induction, no_longer, before_same}

letters : ℕ → List ℕ
letters k = map suc (range k)

letters_have : (k a : ℕ) → 1 ≤ a → a ≤ k → Among (letters k) a
unfolding letters
letters_have k a l h = let e : suc (a - 1) ≡ a = omega arith in subst (Among (map suc (range k))) e (among_map suc (range k) (a - 1) (range_has k (a - 1) (omega arith)))

letters_are : (k a : ℕ) → Among (letters k) a → (1 ≤ a) × (a ≤ k)
unfolding letters
letters_are k a h = let r = among_map_back suc (range k) a h in let b = range_are k r.0 r.1 in (omega (arith, r.2), omega (arith, r.2))

spread : List ℕ → List Word → List Word
spread [] ws = []
spread (a ∷ ls) ws = map (λ w. a ∷ w) ws ++ spread ls ws

spread_has : (ls : List ℕ) (ws : List Word) (a : ℕ) (w : Word) → Among ls a → Among ws w → Among (spread ls ws) (a ∷ w)
unfolding spread
spread_has [] ws a w h g = absurd h
spread_has (b ∷ ls) ws a w (inl e) g = among_left (map (λ v. b ∷ v) ws) (spread ls ws) (a ∷ w) (subst (λ x. Among (map (λ v. b ∷ v) ws) (x ∷ w)) (sym e) (among_map (λ v. b ∷ v) ws w g))
spread_has (b ∷ ls) ws a w (inr h) g = among_right (map (λ v. b ∷ v) ws) (spread ls ws) (a ∷ w) (spread_has ls ws a w h g)

spread_is : (ls : List ℕ) (ws : List Word) (u : Word) → Among (spread ls ws) u → (a : ℕ) × (w : Word) × Among ls a × Among ws w × (u ≡ a ∷ w)
unfolding spread
spread_is [] ws u h = absurd h
spread_is (b ∷ ls) ws u h = go (among_either (map (λ v. b ∷ v) ws) (spread ls ws) u h) (λ g. spread_is ls ws u g)
  where
    go : Among (map (λ v. b ∷ v) ws) u ⊎ Among (spread ls ws) u → (Among (spread ls ws) u → (a : ℕ) × (w : Word) × Among ls a × Among ws w × (u ≡ a ∷ w))
        → (a : ℕ) × (w : Word) × Among (b ∷ ls) a × Among ws w × (u ≡ a ∷ w)
    go (inl g) before = let r = among_map_back (λ v. b ∷ v) ws u g in (b, r.0, inl refl, r.1, r.2)
    go (inr g) before = let r = before g in (r.0, r.1, inr r.2, r.3, r.4)

exactly : ℕ → ℕ → List Word
exactly k zero = [] ∷ []
exactly k (suc n) = spread (letters k) (exactly k n)

exactly_has : (k n : ℕ) (w : Word) → Over k w → length w ≡ n → Among (exactly k n) w
unfolding exactly
exactly_has k zero [] o e = inl refl
exactly_has k zero (a ∷ w) o e = absurd (omega arith)
exactly_has k (suc n) [] o e = absurd (omega arith)
exactly_has k (suc n) (a ∷ w) o e = spread_has (letters k) (exactly k n) a w (letters_have k a o.0 o.1) (exactly_has k n w o.2 (suc_inj e))

exactly_is : (k n : ℕ) (w : Word) → Among (exactly k n) w → Over k w
unfolding exactly
exactly_is k zero w (inl e) = subst (Over k) (sym e) tt
exactly_is k zero w (inr h) = absurd h
exactly_is k (suc n) w h = let r = spread_is (letters k) (exactly k n) w h in let l = letters_are k r.0 r.2 in subst (Over k) (sym r.4) (l.0, l.1, exactly_is k n r.1 r.3)

pub upto : ℕ → ℕ → List Word
upto k zero = exactly k zero
upto k (suc n) = exactly k (suc n) ++ upto k n

pub upto_has : (k n : ℕ) (w : Word) → Over k w → length w ≤ n → Among (upto k n) w
unfolding upto
upto_has k zero w o l = exactly_has k zero w o (omega arith)
upto_has k (suc n) w o l = go (ℕ_discrete (length w) (suc n)) (λ g. upto_has k n w o g)
  where
    go : Dec (length w ≡ suc n) → (length w ≤ n → Among (upto k n) w) → Among (exactly k (suc n) ++ upto k n) w
    go (yes e) before = among_left (exactly k (suc n)) (upto k n) w (exactly_has k (suc n) w o e)
    go (no u) before = among_right (exactly k (suc n)) (upto k n) w (before (omega arith))

upto_is : (k n : ℕ) (w : Word) → Among (upto k n) w → Over k w
unfolding upto
upto_is k zero w h = exactly_is k zero w h
upto_is k (suc n) w h = go (among_either (exactly k (suc n)) (upto k n) w h) (λ g. upto_is k n w g)
  where
    go : Among (exactly k (suc n)) w ⊎ Among (upto k n) w → (Among (upto k n) w → Over k w) → Over k w
    go (inl g) before = exactly_is k (suc n) w g
    go (inr g) before = before g

pub smaller : ℕ → Word → List Word
smaller k w = those (λ u. u ≺ w) (λ u. ≺-decide u w) (upto k (length w))

pub smaller_has : (k : ℕ) (u w : Word) → Over k u → u ≺ w → Among (smaller k w) u
unfolding smaller
smaller_has k u w o l = among_those (λ v. v ≺ w) (λ v. ≺-decide v w) (upto k (length w)) u (upto_has k (length w) u o (no_longer u w l)) l

pub smaller_are : (k : ℕ) (u w : Word) → Among (smaller k w) u → (u ≺ w) × Over k u
unfolding smaller
smaller_are k u w h = let r = among_those_back (λ v. v ≺ w) (λ v. ≺-decide v w) (upto k (length w)) u h in (r.1, upto_is k (length w) u r.0)

-- the least word of which D holds
pub least : (k : ℕ) (D : Word → Type 0) → ((w : Word) → Dec (D w)) → (w : Word) → Over k w → D w → (v : Word) × Over k v × D v × ((u : Word) → u ≺ v → Over k u → ¬ (D u))
least k D decide = ≺-induction (λ w. Over k w → D w → (v : Word) × Over k v × D v × ((u : Word) → u ≺ v → Over k u → ¬ (D u))) (λ w before o d. go w before o d (find D decide (smaller k w)))
  where
    go : (w : Word) → ((u : Word) → u ≺ w → Over k u → D u → (v : Word) × Over k v × D v × ((x : Word) → x ≺ v → Over k x → ¬ (D x))) → Over k w → D w
        → ((u : Word) × Among (smaller k w) u × D u) ⊎ ((u : Word) → Among (smaller k w) u → ¬ (D u)) → (v : Word) × Over k v × D v × ((u : Word) → u ≺ v → Over k u → ¬ (D u))
    go w before o d (inl r) = let s = smaller_are k r.0 w r.1 in before r.0 s.0 s.1 r.2
    go w before o d (inr r) = (w, o, d, λ u l p. r u (smaller_has k u w p l))

-- each word of the list is before those behind it
abbrev Ascending : List Word → Type 0
Ascending [] = Unit {0}
Ascending (x ∷ xs) = ((v : Word) → Among xs v → x ≺ v) × Ascending xs

-- the members of xs, in order
record Sorted (xs : List Word) : Type 0 where
  list : List Word
  ascends : Ascending list
  from : (v : Word) → Among list v → Among xs v
  to : (v : Word) → Among xs v → Among list v

insert : (x : Word) (ys : List Word) → Ascending ys → Sorted (x ∷ ys)
insert x [] a = record { list = x ∷ []; ascends = ((λ v h. absurd h), tt); from = λ v h. h; to = λ v h. h }
insert x (y ∷ ys) a = go (≺-compare x y) (insert x ys a.1)
  where
    go : (x ≺ y) ⊎ ((x ≡ y) ⊎ (y ≺ x)) → Sorted (x ∷ ys) → Sorted (x ∷ y ∷ ys)
    go (inl l) r = record { list = x ∷ y ∷ ys; ascends = (λ v. elim [ inl e ↦ before_same _ l (sym e) | inr h ↦ ≺-transitive x y v l (a.0 v h) ], a); from = λ v h. h; to = λ v h. h }
    go (inr (inl e)) r = record { list = y ∷ ys; ascends = a; from = λ v h. inr h; to = λ v. elim [ inl q ↦ inl (q ∙ e) | inr h ↦ h ] }
    go (inr (inr g)) r = record {
      list = y ∷ r.list;
      ascends = ((λ v h. elim (r.from v h) [ inl e ↦ before_same _ g (sym e) | inr q ↦ a.0 v q ]), r.ascends);
      from = λ v. elim [ inl e ↦ inr (inl e) | inr h ↦ elim (r.from v h) [ inl e ↦ inl e | inr q ↦ inr (inr q) ] ];
      to = λ v. elim [ inl e ↦ inr (r.to v (inl e)) | inr (inl e) ↦ inl e | inr (inr h) ↦ inr (r.to v (inr h)) ];
    }

sort : (xs : List Word) → Sorted xs
sort [] = record { list = []; ascends = tt; from = λ v h. h; to = λ v h. h }
sort (x ∷ xs) = go (sort xs)
  where
    go : Sorted xs → Sorted (x ∷ xs)
    go r = let s = insert x r.list r.ascends in record {
      list = s.list;
      ascends = s.ascends;
      from = λ v h. elim (s.from v h) [ inl e ↦ inl e | inr q ↦ inr (r.from v q) ];
      to = λ v. elim [ inl e ↦ s.to v (inl e) | inr h ↦ s.to v (inr (r.to v h)) ];
    }

-- the words of a list by number
number_among : (xs : List Word) (i : ℕ) → i < length xs → Among xs (get_or xs i [])
number_among [] i l = absurd (omega arith)
number_among (x ∷ xs) zero l = inl refl
number_among (x ∷ xs) (suc i) l = inr (number_among xs i (omega arith))

among_number : (xs : List Word) (v : Word) → Among xs v → (i : ℕ) × (i < length xs) × (v ≡ get_or xs i [])
among_number [] v h = absurd h
among_number (x ∷ xs) v (inl e) = (0, omega arith, e)
among_number (x ∷ xs) v (inr h) = let r = among_number xs v h in (suc r.0, omega (arith, r.1), r.2)

number_ascends : (xs : List Word) → Ascending xs → (i j : ℕ) → i < j → j < length xs → get_or xs i [] ≺ get_or xs j []
number_ascends [] a i j l h = absurd (omega arith)
number_ascends (x ∷ xs) a zero zero l h = absurd (omega arith)
number_ascends (x ∷ xs) a (suc i) zero l h = absurd (omega arith)
number_ascends (x ∷ xs) a zero (suc j) l h = a.0 (get_or xs j []) (number_among xs j (omega arith))
number_ascends (x ∷ xs) a (suc i) (suc j) l h = number_ascends xs a.1 i j (omega arith) (omega arith)

-- the words of which D holds, if they are among those of a list
pub listed_decidable : (D : Word → Type 0) → ((w : Word) → Dec (D w)) → (xs : List Word) → ((w : Word) → D w → Among xs w) → (n : ℕ) × Count D n
listed_decidable D decide xs inside = let r = sort (those D decide xs) in (
  length r.list,
  (
    (λ i. get_or r.list i []),
    record {
      ascends = number_ascends r.list r.ascends;
      good = λ i l. (among_those_back D decide xs (get_or r.list i []) (r.from (get_or r.list i []) (number_among r.list i l))).1;
      whole = λ v h. among_number r.list v (r.to v (among_those D decide xs v (inside v h) h));
    },
  ),
)
