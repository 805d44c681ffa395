-- Several steps of the reader: what they read, and where they stop. Assumes nothing.
use Rattle.std.proofs.Common.{◌≡◌, ℕ, zero, suc, ◌+◌, ◌*◌, ◌^◌, ◌<◌, ◌≤◌, ◌⊎◌, List, [], ◌∷◌, ◌++◌, length, get_or, take, drop, set, replicate, sym, refl, ap, ◌∙◌, subst, inl, inr, append_assoc, arith}
use Rattle.std.specs.List.{AllByRecursion as All}
use Rattle.std.proofs.lemmas.List.{take_more_set, drop_more, take-append-drop, map-append, length-take, take_at}
use Rattle.std.proofs.slice.Lists.{all_by_recursion_push}
use Rattle.columns.specs.Numbers.{number}
use Rattle.columns.specs.Lines.{numbers, TenDigits}
use Rattle.reader.specs.Items.{Item, first, ranged, close, along, after, exact_items, Passes, Goes, Misfits, Stopped, Stops}
use Rattle.reader.specs.Steps.{left, Went, Expects, SameLine}
use Rattle.columns.specs.declared.line.Due.{Due}
use Rattle.faults.specs.declared.Position.{Position}
use Rattle.faults.specs.declared.LoadFault.{LoadFault}
use Rattle.reader.specs.declared.Reader.{Reader}
use Rattle.columns.proofs.Begun.{length_number}
use Rattle.columns.proofs.Lengths.{numbers_more}
use Rattle.reader.proofs.Moves.{standing}

-- the position after several items
abbrev pub after_all : List Item → Position → Position
after_all [] p = p
after_all (i ∷ is) p = after_all is (after i p)

pub went_none : (r : Reader) (p : Position) → r.position ≡ p → Went r r [] p
went_none r p e = record { over = refl; position = e }

pub went_more : (r s t : Reader) (a b : List ℕ) (p q : Position) → Went r s a p → Went s t b q → Went r t (a ++ b) q
went_more r s t a b p q f g = record {
  over = f.over ∙ ap (λ l. a ++ l) g.over ∙ sym (append_assoc a b (left t));
  position = g.position;
}

along_along : (p : Position) (m n k : ℕ) → m + n ≡ k → along (along p m) n ≡ along p k
along_along p m n k e = λ i. record { line = p.line; column = (let w : p.column + m + n ≡ p.column + k = omega arith in w) i }

-- the place moves along with the reader
pub went_along : (r s : Reader) (a : List ℕ) (p : Position) (m n k : ℕ) → m + n ≡ k → Went r s a (along (along p m) n) → Went r s a (along p k)
went_along r s a p m n k e w = subst (Went r s a) (along_along p m n k e) w

-- the same line stays due
pub expects_on : (s t : Reader) (line : Due) (rows : ℕ) → Expects s line rows → SameLine s t → Expects t line rows
expects_on s t line rows e same = record { due = same.due ∙ e.due; rows = same.rows ∙ e.rows }

-- the first i of the codes are read
pub record Rowed (r s : Reader) (codes : List ℕ) (i high : ℕ) : Type 0 where
  pub went : Went r s (numbers (take i codes)) (along r.position (11 * i))
  pub below : All (λ v. v ≤ high) (take i codes)

pub rowed_more : (r s t : Reader) (codes : List ℕ) (i high v : ℕ) → i < length codes → Rowed r s codes i high → v ≤ high → Went s t (number v) (along s.position 11) → Rowed r t (set codes i v) (i + 1) high
rowed_more r s t codes i high v on rowed h w =
    let step = subst (λ p. Went s t (number v) (along p 11)) rowed.went.position w in
    let whole = take_more_set codes i v on in
    record {
      went = rw whole (rw numbers_more (went_along r t _ r.position (11 * i) 11 (11 * (i + 1)) (omega arith) (went_more r s t _ _ _ _ rowed.went step)));
      below = rw whole (all_by_recursion_push (λ v. v ≤ high) (take i codes) v rowed.below h);
    }

-- a row stops at the number after those that it went over
pub stops_row : (high : ℕ) (vs : List ℕ) (n : ℕ) (p : Position) (rest : List ℕ) (f : LoadFault) → high < 10 ^ 10 → length vs < n → All (λ v. v ≤ high) vs → Stopped (ranged 0 high) (along p (11 * length vs)) rest f → Stops (replicate n (ranged 0 high)) p (numbers vs ++ rest) f
unfolding Stops
stops_row high [] zero p rest f small more below stopped = absurd (omega arith)
stops_row high [] (suc n) p rest f small more below stopped = inl (subst (λ q. Stopped (ranged 0 high) q rest f) (sym (standing p 0 refl)) stopped)
stops_row high (v ∷ vs) zero p rest f small more below stopped = absurd (omega arith)
stops_row high (v ∷ vs) (suc n) p rest f small more below stopped =
    inr (
      number v,
      numbers vs ++ rest,
      (v, omega (arith, below.0), omega arith, below.0, refl),
      append_assoc (number v) (numbers vs) rest,
      stops_row high vs n (along p 11) rest f small (omega arith) below.1 (subst (λ q. Stopped (ranged 0 high) q rest f) (sym (along_along p 11 (11 * length vs) (11 * suc (length vs)) (omega arith))) stopped),
    )

pub rowed_stops : (r s : Reader) (codes : List ℕ) (i n high : ℕ) (f : LoadFault) → high < 10 ^ 10 → i < length codes → i < n → Rowed r s codes i high → Stopped (ranged 0 high) s.position (left s) f → Stops (replicate n (ranged 0 high)) r.position (left r) f
rowed_stops r s codes i n high f small on more rowed stopped =
    let long : length (take i codes) ≡ i = simp length-take (omega arith) in
    let place : s.position ≡ along r.position (11 * length (take i codes)) = rowed.went.position ∙ ap (λ m. along r.position (11 * m)) (sym long) in
    subst (λ l. Stops (replicate n (ranged 0 high)) r.position l f) (sym rowed.went.over)
    (stops_row high (take i codes) n r.position (left s) f small (omega arith) rowed.below (subst (λ p. Stopped (ranged 0 high) p (left s) f) place stopped))

-- a number that is read and then refused
pub misfits : (r s : Reader) (v low high : ℕ) → v < 10 ^ 10 → Went r s (number v) (along r.position 11) → (v < low) ⊎ (high < v) → Misfits (ranged low high) r.position (left r) r.position
misfits r s v low high small w out = (v, small, ap (take 11) w.over ∙ take_at (number v) (left s) 11 (length_number v small), out, refl)

pub stops_front : (is js : List Item) (p : Position) (bs : List ℕ) (f : LoadFault) → Stops is p bs f → Stops (is ++ js) p bs f
unfolding Stops
stops_front [] js p bs f s = absurd s
stops_front (i ∷ is) js p bs f (inl h) = inl h
stops_front (i ∷ is) js p bs f (inr (a, b, h, e, s)) = inr (a, b, h, e, stops_front is js (after i p) b f s)

pub stops_past : (is js : List Item) (p : Position) (a b : List ℕ) (f : LoadFault) → Goes is a → Stops js (after_all is p) b f → Stops (is ++ js) p (a ++ b) f
unfolding Stops Goes
stops_past [] js p a b f e s = subst (λ l. Stops js p (l ++ b) f) (sym e) s
stops_past (i ∷ is) js p a b f (x, y, h, go, e) s = inr (x, y ++ b, h, ap (λ l. l ++ b) e ∙ append_assoc x y b, stops_past is js (after i p) y b f go s)

pub goes_append : (is js : List Item) (a b : List ℕ) → Goes is a → Goes js b → Goes (is ++ js) (a ++ b)
unfolding Goes
goes_append [] js a b e g = subst (λ l. Goes js (l ++ b)) (sym e) g
goes_append (i ∷ is) js a b (x, y, h, go, e) g = (x, y ++ b, h, goes_append is js y b go g, ap (λ l. l ++ b) e ∙ append_assoc x y b)

pub after_append : (is js : List Item) (p : Position) → after_all (is ++ js) p ≡ after_all js (after_all is p)
after_append [] js p = refl
after_append (i ∷ is) js p = after_append is js (after i p)

pub goes_row : (high n : ℕ) (vs : List ℕ) → high < 10 ^ 10 → length vs ≡ n → All (λ v. v ≤ high) vs → Goes (replicate n (ranged 0 high)) (numbers vs)
unfolding Goes
goes_row high zero [] small e below = refl
goes_row high (suc n) [] small e below = absurd (omega arith)
goes_row high zero (v ∷ vs) small e below = absurd (omega arith)
goes_row high (suc n) (v ∷ vs) small e below = (number v, numbers vs, (v, omega (arith, below.0), omega arith, below.0, refl), goes_row high n vs small (omega arith) below.1, refl)

pub after_row : (high n : ℕ) (p : Position) → after_all (replicate n (ranged 0 high)) p ≡ along p (11 * n)
after_row high zero p = standing p 0 refl
after_row high (suc n) p = after_row high n (along p 11) ∙ along_along p 11 (11 * n) (11 * suc n) (omega arith)

-- the reader passes an item, or several, and stops later
pub went_stops : (i : Item) (is : List Item) (r s : Reader) (a : List ℕ) (f : LoadFault) → Passes i a → Went r s a (after i r.position) → Stops is s.position (left s) f → Stops (i ∷ is) r.position (left r) f
unfolding Stops
went_stops i is r s a f h w stops = inr (a, left s, h, w.over, subst (λ p. Stops is p (left s) f) w.position stops)

pub went_stops_all : (is js : List Item) (r s : Reader) (a : List ℕ) (f : LoadFault) → Goes is a → Went r s a (after_all is r.position) → Stops js s.position (left s) f → Stops (is ++ js) r.position (left r) f
went_stops_all is js r s a f h w stops = subst (λ l. Stops (is ++ js) r.position l f) (sym w.over) (stops_past is js r.position a (left s) f h (subst (λ p. Stops js p (left s) f) w.position stops))

pub stops_here : (i : Item) (is : List Item) (p : Position) (bs : List ℕ) (f : LoadFault) → Stopped i p bs f → Stops (i ∷ is) p bs f
unfolding Stops
stops_here i is p bs f h = inl h

-- numbers of just these values
pub goes_exact : (vs : List ℕ) → TenDigits vs → Goes (exact_items vs) (numbers vs)
unfolding Goes
goes_exact [] small = refl
goes_exact (v ∷ vs) small = (number v, numbers vs, (v, small.0, omega arith, omega arith, refl), goes_exact vs small.1, refl)

pub after_exact : (vs : List ℕ) (p : Position) → after_all (exact_items vs) p ≡ along p (11 * length vs)
after_exact [] p = standing p 0 refl
after_exact (v ∷ vs) p = after_exact vs (along p 11) ∙ along_along p 11 (11 * length vs) (11 * suc (length vs)) (omega arith)

-- the position after them and a row
pub heads_after : (vs : List ℕ) (high n : ℕ) (p : Position) → after_all (exact_items vs ++ replicate n (ranged 0 high)) p ≡ along p (11 * length vs + 11 * n)
heads_after vs high n p = after_append (exact_items vs) (replicate n (ranged 0 high)) p ∙ ap (after_all (replicate n (ranged 0 high))) (after_exact vs p) ∙ after_row high n (along p (11 * length vs)) ∙ along_along p (11 * length vs) (11 * n) (11 * length vs + 11 * n) refl

pub exact_past : (vs : List ℕ) (js : List Item) (r s : Reader) (f : LoadFault) → TenDigits vs → Went r s (numbers vs) (along r.position (11 * length vs)) → Stops js s.position (left s) f → Stops (exact_items vs ++ js) r.position (left r) f
exact_past vs js r s f small w stops = went_stops_all (exact_items vs) js r s _ f (goes_exact vs small) (subst (Went r s (numbers vs)) (sym (after_exact vs r.position)) w) stops

-- the first i of them are read
pub record Matched (r s : Reader) (vs : List ℕ) (i : ℕ) : Type 0 where
  pub went : Went r s (numbers (take i vs)) (along r.position (11 * i))
  pub small : TenDigits (take i vs)

pub matched_stops : (r s : Reader) (vs : List ℕ) (i : ℕ) (f : LoadFault) → i < length vs → Matched r s vs i → Stopped (ranged (get_or vs i 0) (get_or vs i 0)) s.position (left s) f → Stops (exact_items vs) r.position (left r) f
matched_stops r s vs i f on matched stopped =
    let v = get_or vs i 0 in
    let long : length (take i vs) ≡ i = simp length-take (omega arith) in
    let parts : exact_items vs ≡ exact_items (take i vs) ++ (ranged v v ∷ exact_items (drop (i + 1) vs)) =
    ap exact_items (sym (take-append-drop i vs) ∙ ap (λ l. take i vs ++ l) (drop_more vs i 0 on)) ∙ map-append (λ n. ranged n n) (take i vs) (v ∷ drop (i + 1) vs) in
    subst (λ is. Stops is r.position (left r) f) (sym parts)
    (exact_past (take i vs) _ r s f matched.small (subst (λ n. Went r s (numbers (take i vs)) (along r.position (11 * n))) (sym long) matched.went) (stops_here _ _ _ _ _ stopped))

-- a line's head, its numbers and its end
module _ (k : ℕ) (r s t : Reader) (body : List ℕ) (m : ℕ) (head : Went r s (k ∷ []) (along r.position 1)) (then : Went s t body (along s.position m)) where
  pub line_stops : (is : List Item) (f : LoadFault) → Goes is body → after_all is s.position ≡ along s.position m → Stopped close t.position (left t) f → Stops (first k ∷ (is ++ close ∷ [])) r.position (left r) f
  unfolding Stops
  line_stops is f goes place stopped =
      went_stops (first k) _ r s _ f refl head
      (went_stops_all is (close ∷ []) s t body f goes (subst (Went s t body) (sym place) then) (inl stopped))

pub went_on : (r s t : Reader) (a b : List ℕ) (m n k : ℕ) → m + n ≡ k → Went r s a (along r.position m) → Went s t b (along s.position n) → Went r t (a ++ b) (along r.position k)
went_on r s t a b m n k e f g = went_along r t _ r.position m n k e (went_more r s t a b _ _ f (subst (λ p. Went s t b (along p n)) f.position g))

pub head_stops : (k : ℕ) (is : List Item) (r s : Reader) (f : LoadFault) → Went r s (k ∷ []) (along r.position 1) → Stops is s.position (left s) f → Stops (first k ∷ is) r.position (left r) f
head_stops k is r s f w stops = went_stops (first k) is r s _ f refl w stops

pub value_stops : (low high : ℕ) (is : List Item) (r s : Reader) (v : ℕ) (f : LoadFault) → v < 10 ^ 10 → low ≤ v → v ≤ high → Went r s (number v) (along r.position 11) → Stops is s.position (left s) f → Stops (ranged low high ∷ is) r.position (left r) f
value_stops low high is r s v f small l h w stops = went_stops (ranged low high) is r s _ f (v, small, l, h, refl) w stops

pub value_goes : (low high : ℕ) (is : List Item) (v : ℕ) (b : List ℕ) → v < 10 ^ 10 → low ≤ v → v ≤ high → Goes is b → Goes (ranged low high ∷ is) (number v ++ b)
unfolding Goes
value_goes low high is v b small l h g = (number v, b, (v, small, l, h, refl), g, refl)

pub stops_exact : (v q : ℕ) (is : List Item) (p : Position) (bs : List ℕ) (f : LoadFault) → v ≡ q → Stops (ranged v v ∷ is) p bs f → Stops (ranged q q ∷ is) p bs f
stops_exact v q is p bs f e s = subst (λ n. Stops (ranged n n ∷ is) p bs f) e s
