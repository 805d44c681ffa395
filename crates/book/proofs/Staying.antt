-- What lies at a place lies there until the place is made or cleared anew. Assumes nothing.
use Rattle.std.proofs.Common.{◌≡◌, ℕ, ◌+◌, ◌<◌, ◌≤◌, ◌≢◌, ◌⊎◌, List, [], ◌∷◌, ◌++◌, map, length, get_or, sym, refl, ap, ◌∙◌, subst, inl, inr, arith}
use native.Mathlib.Decide.{dec_lt}
use lib.ListN.{length-map}
use Rattle.std.proofs.lemmas.List.{get_or_past}
use Rattle.field.specs.FiniteField.{FiniteField}
use Rattle.series.specs.Tables.{SameTable}
use Rattle.field.specs.Rows.{at}
use Rattle.rows.specs.Memory.{Frame}
use Rattle.rows.specs.Layout.{table_size, table_at}
use Rattle.rows.proofs.Memory.{at_copied}
use Rattle.text.specs.Facts.{ToldApart}
use Rattle.book.specs.Shelves.{Entry, empty, filled, Shelf, Lent, State, Opened, Place, InRange, at_place, entry, states_of, letters_of, begins, table}
use Rattle.book.specs.Calls.{Call}
use Rattle.book.specs.Doing.{Does}
use Rattle.book.specs.Using.{lending, Use, none, next, Opening, Changes, Untouched, still, later, Page, blank, holds, page}
use Rattle.book.specs.Outcomes.{Outcome}
use Rattle.book.proofs.Places.{place?, at_other, at_outside, apart}
use Rattle.text.proofs.Limits.{block_fits}
use Rattle.book.proofs.Blocks.{same_by_values}
use Rattle.book.proofs.Standing.{Good, Stands, anywhere}
use Rattle.book.proofs.Books.{InStep, makes, empties, rests, heard, hears_some}
use Rattle.book.proofs.Uses.{use_booked, use_stands}

-- a table in range takes at most the room of its place
range_fits : (e : Entry) → InRange e → table_size (states_of e) (letters_of e) ≤ 1568
range_fits empty r = omega arith
range_fits (filled n k) r = block_fits n k r

module _ {V : Type 0} (K : FiniteField V) {F : Type 0} (value : F → V) where
  -- every entry is in range
  good_range : (m : List F) (b : ℕ) (e : Entry) (g : Page V) → Good K value m b e g → InRange e
  good_range m b empty blank h = tt
  good_range m b empty (holds j f) h = tt
  good_range m b (filled n k) blank h = absurd h
  good_range m b (filled n k) (holds j f) h = h.0

  pub stands_range : (s : Shelf F) (B : List (Page V)) → Stands K value s B → (p : ℕ) → InRange (entry s p)
  stands_range s B i p = good_range s.memory (begins p) (entry s p) (page K B p) (anywhere K value s B i p)

  -- the entry of p, and the elements of its table, are the same in t as in s
  pub record Stays (p : ℕ) (s t : Shelf F) : Type 0 where
    pub length_same : length t.memory ≡ length s.memory
    pub entry_same : entry t p ≡ entry s p
    pub same : (i : ℕ) (x : F) → begins p ≤ i → i < begins p + table_size (states_of (entry s p)) (letters_of (entry s p)) → get_or t.memory i x ≡ get_or s.memory i x

  pub stays_trans : (p : ℕ) (s t u : Shelf F) → Stays p s t → Stays p t u → Stays p s u
  stays_trans p s t u a b = record {
    length_same = b.length_same ∙ a.length_same;
    entry_same = b.entry_same ∙ a.entry_same;
    same = λ i x low high. b.same i x low (subst (λ e. i < begins p + table_size (states_of e) (letters_of e)) (sym a.entry_same) high) ∙ a.same i x low high;
  }

  -- an element that is the very element it was has the value it had
  at_kept : (xs ys : List F) (i : ℕ) → length ys ≡ length xs → ((x : F) → get_or ys i x ≡ get_or xs i x) → at K value ys i ≡ at K value xs i
  at_kept xs ys i n e = go (dec_lt i (length xs))
    where
      go : Dec (i < length xs) → at K value ys i ≡ at K value xs i
      go (yes l) = at_copied K value xs ys i i l (omega arith) e
      go (no u) = get_or_past (map value ys) i K.zero (simp length-map (omega arith)) ∙ sym (get_or_past (map value xs) i K.zero (simp length-map (omega arith)))

  -- a table that stays agrees number for number with what it was
  pub stays_table : (p : ℕ) (s t : Shelf F) → Stays p s t → SameTable (table K value t p) (table K value s p)
  stays_table p s t h = subst (λ e. SameTable (table_at K value t.memory (begins p) (states_of e) (letters_of e)) (table K value s p)) (sym h.entry_same)
      (same_by_values K value t.memory s.memory (begins p) (states_of (entry s p)) (letters_of (entry s p)) (λ i low high. at_kept s.memory t.memory i h.length_same (λ x. h.same i x low high)))

  step_stays : (s t : State F) (B B' : List (Page V)) (Changed : ℕ → Type 0) (p : ℕ) → ¬ (Changed p) → Stands K value s.shelf B → InStep K value s t B B' Changed → Stays p s.shelf t.shelf
  step_stays s t B B' Changed p u i (makes to R j f m l lim same weighs x e) = record {
    length_same = x.numbers.frame.len;
    entry_same = ap (λ z. at_place empty z p) x.entries ∙ at_other empty s.shelf.entries to p (filled R.states R.letters) away;
    same = λ k y low high. go (place? p) k y low high;
  }
    where
      away : p ≢ to
      away d = u (subst Changed (sym d) m)

      frame : Frame (begins to) (table_size R.states R.letters) s.shelf.memory t.shelf.memory
      frame = x.numbers.frame

      side : (k : ℕ) (y : F) → (k < begins to) ⊎ (begins to + table_size R.states R.letters ≤ k) → get_or t.shelf.memory k y ≡ get_or s.shelf.memory k y
      side k y (inl h) = frame.below k y h
      side k y (inr h) = frame.above k y h

      go : Dec (Place p) → (k : ℕ) (y : F) → begins p ≤ k → k < begins p + table_size (states_of (entry s.shelf p)) (letters_of (entry s.shelf p)) → get_or t.shelf.memory k y ≡ get_or s.shelf.memory k y
      go (yes h) k y low high = side k y (apart p to k (table_size R.states R.letters) h l (λ d. away (sym d)) (block_fits R.states R.letters lim) low (omega (arith, range_fits (entry s.shelf p) (stands_range s.shelf B i p))))
      go (no h) k y low high = absurd (let z : k < begins p + table_size 0 0 = subst (λ e. k < begins p + table_size (states_of e) (letters_of e)) (at_outside empty s.shelf.entries p h i.entries) high in omega arith)
  step_stays s t B B' Changed p u i (empties q m l x e) = record {
    length_same = ap length x.memory;
    entry_same = ap (λ z. at_place empty z p) x.entries ∙ at_other empty s.shelf.entries q p empty (λ d. u (subst Changed (sym d) m));
    same = λ k y low high. ap (λ z. get_or z k y) x.memory;
  }
  step_stays s t B B' Changed p u i (rests d e) = record { length_same = ap (λ z. length z.memory) d; entry_same = ap (λ z. entry z p) d; same = λ k y low high. ap (λ z. get_or z.memory k y) d }

  -- shelf memory keeps its length
  step_length : (s t : State F) (B B' : List (Page V)) (Changed : ℕ → Type 0) → InStep K value s t B B' Changed → length t.shelf.memory ≡ length s.shelf.memory
  step_length s t B B' Changed (makes to R j f m l lim same weighs x e) = x.numbers.frame.len
  step_length s t B B' Changed (empties q m l x e) = ap length x.memory
  step_length s t B B' Changed (rests d e) = ap (λ z. length z.memory) d

  -- a call of a use, with the use's book
  record Heard (s : Shelf F) (t : State F) (l : Lent) (Changed : ℕ → Type 0) : Type 0 where
    B : List (Page V)
    B' : List (Page V)
    stands : Stands K value s B
    in_step : InStep K value (lending s l) t B B' Changed

  module _ (told_apart : ToldApart K) where
    hear : {first s : Shelf F} {cs : List Call} {os : List Outcome} → Opened first → Use K value first cs os s → (l : Lent) (c : Call) (o : Outcome) (t : State F) → Does K value (lending s l) c o t → Heard s t l (Changes c o)
    hear {s = s} e u l c o t d =
        let b = use_booked K value u in
        let i = use_stands K value told_apart e u b.0 b.1 in
        let g = hears_some K value (lending s l) t b.0 c o d in
        record { B = b.0; B' = g.0; stands = i; in_step = heard K value told_apart (lending s l) t b.0 i g.0 c o d g.1 }

    pub use_memory : {first s : Shelf F} {cs : List Call} {os : List Outcome} → Opened first → Use K value first cs os s → length s.memory ≡ length first.memory
    use_memory e none = refl
    use_memory e (next {s = s} u l c o t d) = let h = hear e u l c o t d in step_length (lending s l) t h.B h.B' (Changes c o) h.in_step ∙ use_memory e u

    -- a use goes on
    goes_on : (p : ℕ) (s t : Shelf F) → Untouched K value p s t → (cs : List Call) (os : List Outcome) → Opening K value cs os s → (cs' : List Call) × (os' : List Outcome) × Opening K value cs' os' t
    goes_on p s t still cs os u = (cs, os, u)
    goes_on p s t (later {t = m} h l c o v d n) cs os u = let r = goes_on p s m h cs os u in (r.0 ++ c ∷ [], r.1 ++ o ∷ [], record { first = r.2.first; opened = r.2.opened; uses = next r.2.uses l c o v d })

    pub untouched_stays : (p : ℕ) (s t : Shelf F) → Untouched K value p s t → (cs : List Call) (os : List Outcome) → Opening K value cs os s → Stays p s t
    untouched_stays p s t still cs os u = record { length_same = refl; entry_same = refl; same = λ i x low high. refl }
    untouched_stays p s t (later {t = m} h l c o v d n) cs os u =
        let r = goes_on p s m h cs os u in
        let g = hear r.2.opened r.2.uses l c o v d in
        stays_trans p s m v.shelf (untouched_stays p s m h cs os u) (step_stays (lending m l) v g.B g.B' (Changes c o) p n g.stands g.in_step)
