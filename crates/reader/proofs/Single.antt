-- A reader stops at one place. Assumes nothing.
use Rattle.std.proofs.Common.{◌≡◌, ℕ, ◌+◌, ◌<◌, ◌≤◌, List, [], ◌∷◌, ◌++◌, length, take, sym, refl, ap, ◌∙◌, subst, inl, inr, ⊎_elim, append_assoc, arith}
use Rattle.std.proofs.lemmas.List.{take-take, take_all, take_at, length-take, length-take-le, length-append}
use Rattle.std.proofs.lemmas.Bool.{cases_lt, cases_order}
use Rattle.columns.specs.Numbers.{number}
use Rattle.reader.specs.Items.{Item, first, ranged, close, width, Opens, along, after, named, Halts, Passes, Goes, Misfits, Stopped, Stops}
use Rattle.faults.specs.declared.Position.{Position}
use Rattle.faults.specs.declared.LineFault.{LineFault}
use Rattle.faults.specs.declared.LoadFault.{LoadFault}
use Rattle.faults.specs.declared.LoadFault.TheVariants.{Line, Value, Beyond}
use Rattle.columns.proofs.Begun.{length_number}
use Rattle.columns.proofs.Lengths.{number_same, append_parts}

front_take : (whole p : List ℕ) (k : ℕ) → take (length p) whole ≡ p → take (length (take k p)) whole ≡ take k p
front_take whole p k e =
    ⊎_elim
    (λ (l : k < length p). ap (λ n. take n whole) (length-take-le k p (omega arith)) ∙ sym (take-take k (length p) whole (omega arith)) ∙ ap (take k) e)
    (λ (l : length p ≤ k). ap (λ q. take (length q) whole) (take_all k p l) ∙ e ∙ sym (take_all k p l))
    (cases_lt k (length p))

-- what begins an item begins it however early it ends
opens_take : (i : Item) (p : List ℕ) (k : ℕ) → Opens i p → Opens i (take k p)
opens_take (first b') p n o = front_take _ p n o
opens_take (ranged low high) p n o = (o.0, o.1, front_take (number o.0) p n o.2)
opens_take close p n o = front_take _ p n o

opens_less : (i : Item) (bs : List ℕ) (k m : ℕ) → k ≤ m → Opens i (take m bs) → Opens i (take k bs)
opens_less i bs k m h o = subst (Opens i) (take-take k m bs h) (opens_take i (take m bs) k o)

passes_long : (i : Item) (a : List ℕ) → Passes i a → length a ≡ width i
passes_long (first b') a e = ap length e
passes_long (ranged low high) a e = ap length e.4 ∙ length_number e.0 e.1
passes_long close a e = ap length e

passes_opens : (i : Item) (a : List ℕ) → Passes i a → Opens i a
passes_opens (first b') a e = subst (Opens (first b')) (sym e) refl
passes_opens (ranged low high) a e = (e.0, e.1, subst (λ l. take (length l) (number e.0) ≡ l) (sym e.4) (take_all (length (number e.0)) (number e.0) (omega arith)))
passes_opens close a e = subst (Opens close) (sym e) refl

-- the whole item is there: a reader of its columns does not stop
full : (i : Item) (p : Position) (rest : List ℕ) (f : LineFault) → width i ≤ length rest → Opens i (take (width i) rest) → Halts i p rest f → ⊥
full i p rest f long o (inl (e, _)) = omega (arith, e.short)
full i p rest f long o (inr (c, b, _)) = b.here (opens_less i rest (c + 1) (width i) (omega (arith, b.inside)) o)

halts_one : (i : Item) (p : Position) (rest : List ℕ) (f g : LineFault) → Halts i p rest f → Halts i p rest g → f ≡ g
halts_one i p rest f g (inl (e, h)) (inl (d, k)) = h ∙ sym k
halts_one i p rest f g (inl (e, h)) (inr (c, b, k)) = absurd (b.here (opens_take i rest (c + 1) e.opens))
halts_one i p rest f g (inr (c, b, h)) (inl (e, k)) = absurd (b.here (opens_take i rest (c + 1) e.opens))
halts_one i p rest f g (inr (c, b, h)) (inr (d, a, k)) =
    ⊎_elim
    (λ (e : c ≡ d). h ∙ ap (λ n. named i (along p n)) e ∙ sym k)
    (⊎_elim
    (λ (l : c < d). absurd (b.here (opens_less i rest (c + 1) d (omega arith) a.before)))
    (λ (l : d < c). absurd (a.here (opens_less i rest (d + 1) c (omega arith) b.before))))
    (cases_order c d)

misfit_full : (i : Item) (p : Position) (rest : List ℕ) (at : Position) → Misfits i p rest at → (width i ≤ length rest) × Opens i (take (width i) rest)
misfit_full (first b') p rest at r = absurd r
misfit_full (ranged low high) p rest at (v, small, is, out, e) =
    let long : length (take 11 rest) ≡ 11 = ap length is ∙ length_number v small in
    (omega (arith, length-take 11 rest), (v, small, subst (λ l. take (length l) (number v) ≡ l) (sym is) (take_all (length (number v)) (number v) (omega arith))))
misfit_full close p rest at r = absurd r

misfit_place : (i : Item) (p : Position) (rest : List ℕ) (at : Position) → Misfits i p rest at → at ≡ p
misfit_place (first b') p rest at r = absurd r
misfit_place (ranged low high) p rest at r = r.4
misfit_place close p rest at r = absurd r

stopped_one : (i : Item) (p : Position) (rest : List ℕ) (f g : LoadFault) → Stopped i p rest f → Stopped i p rest g → f ≡ g
stopped_one i p rest (Line f) (Line g) h k = ap Line (halts_one i p rest f g h k)
stopped_one i p rest (Line f) (Value g) h k = let o = misfit_full i p rest g k in absurd (full i p rest f o.0 o.1 h)
stopped_one i p rest (Line f) (Beyond g) h k = absurd k
stopped_one i p rest (Value f) (Line g) h k = let o = misfit_full i p rest f h in absurd (full i p rest g o.0 o.1 k)
stopped_one i p rest (Value f) (Value g) h k = ap Value (misfit_place i p rest f h ∙ sym (misfit_place i p rest g k))
stopped_one i p rest (Value f) (Beyond g) h k = absurd k
stopped_one i p rest (Beyond f) g h k = absurd h

not_misfit : (i : Item) (p : Position) (a b : List ℕ) (at : Position) → Passes i a → Misfits i p (a ++ b) at → ⊥
not_misfit (first b') p a b at h r = r
not_misfit (ranged low high) p a b at (w, few, low_ok, high-ok, e) (v, small, is, out, _) =
    let same : v ≡ w = number_same v w small few (sym is ∙ take_at a b 11 (ap length e ∙ length_number w few) ∙ e) in
    ⊎_elim (λ (l : v < low). omega arith) (λ (l : high < v). omega arith) out
not_misfit close p a b at h r = r

-- what passes an item does not stop in it
passed : (i : Item) (p : Position) (a b : List ℕ) (f : LoadFault) → Passes i a → Stopped i p (a ++ b) f → ⊥
passed i p a b (Line f) h s =
    let long = passes_long i a h in
    full i p (a ++ b) f (omega (arith, length-append a b)) (subst (Opens i) (sym (take_at a b (width i) long)) (passes_opens i a h)) s
passed i p a b (Value at) h s = not_misfit i p a b at h s
passed i p a b (Beyond at) h s = s

same_parts : (i : Item) (a b x y : List ℕ) → Passes i a → Passes i b → a ++ x ≡ b ++ y → x ≡ y
same_parts i a b x y h k e = (append_parts a b x y (passes_long i a h ∙ sym (passes_long i b k)) e).1

pub goes_not : (is : List Item) (p : Position) (a b : List ℕ) (f : LoadFault) → Goes is a → Stops is p (a ++ b) f → ⊥
unfolding Goes Stops
goes_not [] p a b f g s = s
goes_not (i ∷ is) p a b f (x, y, h, go, e) (inl s) = passed i p x (y ++ b) f h (subst (λ l. Stopped i p l f) (ap (λ l. l ++ b) e ∙ append_assoc x y b) s)
goes_not (i ∷ is) p a b f (x, y, h, go, e) (inr (u, v, k, d, s)) =
    goes_not is (after i p) y b f go (subst (λ l. Stops is (after i p) l f) (sym (same_parts i x u (y ++ b) v h k (sym (append_assoc x y b) ∙ ap (λ l. l ++ b) (sym e) ∙ d))) s)

pub stops_one : (is : List Item) (p : Position) (bs : List ℕ) (f g : LoadFault) → Stops is p bs f → Stops is p bs g → f ≡ g
unfolding Stops
stops_one [] p bs f g s t = absurd s
stops_one (i ∷ is) p bs f g (inl s) (inl t) = stopped_one i p bs f g s t
stops_one (i ∷ is) p bs f g (inl s) (inr (u, v, k, d, t)) = absurd (passed i p u v f k (subst (λ l. Stopped i p l f) d s))
stops_one (i ∷ is) p bs f g (inr (x, y, h, e, s)) (inl t) = absurd (passed i p x y g h (subst (λ l. Stopped i p l g) e t))
stops_one (i ∷ is) p bs f g (inr (x, y, h, e, s)) (inr (u, v, k, d, t)) =
    stops_one is (after i p) y f g s (subst (λ l. Stops is (after i p) l g) (sym (same_parts i x u y v h k (sym e ∙ d))) t)
