-- Load and write undo each other. Assumes nothing.
use Rattle.std.proofs.Common.{◌≡◌, ℕ, ◌≤◌, ◌≢◌, ◌↔◌, List, [], ◌∷◌, ◌++◌, length, take, drop, sym, refl, ap, ◌∙◌, subst, ap₂, inl, inr, arith, Ok, Err}
use native.Mathlib.Decide.{dec_le}
use Rattle.std.proofs.lemmas.List.{take_at}
use Rattle.field.specs.FiniteField.{FiniteField}
use Rattle.series.specs.Tables.{Table, SameTable}
use Rattle.rows.specs.Layout.{table_at}
use Rattle.text.specs.Texts.{text_of, text_size}
use Rattle.text.specs.Readings.{Sized}
use Rattle.text.specs.Facts.{LengthIs, ToldApart, Decided}
use Rattle.book.specs.Shelves.{Entry, empty, filled, Shelf, Lent, State, Place, at_place, entry, states_of, letters_of, begins, table}
use Rattle.book.specs.Calls.{Call, load, write}
use Rattle.book.specs.Refusing.{Meets, outside, short_memory, short_work, vacant, write_room, load_fault}
use Rattle.book.specs.Doing.{with_text, Makes, Does}
use Rattle.book.specs.Using.{lending, Opening, Untouched, next}
use Rattle.book.specs.RoundTrips.{IsTableText, CanLoad, LoadAndWriteUndoEachOther}
use Rattle.book.specs.declared.refusal.Refusal.{Refusal}
use Rattle.book.specs.declared.refusal.Refusal.TheVariants.{MemoryShort}
use Rattle.book.specs.declared.outcome.Answer.{Answer}
use Rattle.book.specs.declared.outcome.Answer.TheVariants.{Done, Code, Told, Count}
use Rattle.book.specs.Outcomes.{Outcome}
use Rattle.book.proofs.Places.{at_same}
use Rattle.book.proofs.Blocks.{same_sym, same_trans}
use Rattle.book.proofs.Accepting.{placed, full}
use Rattle.text.proofs.SameTexts.{text_same}
use Rattle.book.proofs.Standing.{source}
use Rattle.book.proofs.Uses.{use_booked, use_stands}
use Rattle.book.proofs.Staying.{Stays, stays_table, untouched_stays}

abbrev IsFilled : Entry → Type 0
IsFilled empty = ⊥
IsFilled (filled n k) = Unit {0}

filled_not_empty : (n k : ℕ) → filled n k ≢ empty
filled_not_empty n k e = subst IsFilled e tt

-- the count of bytes in an answer
abbrev counted : Answer → ℕ
counted Done = 0
counted (Code c) = 0
counted (Told v) = 0
counted (Count n) = n

module _ {V : Type 0} (K : FiniteField V) {F : Type 0} (value : F → V) (lengths : LengthIs K) (told_apart : ToldApart K) (decided : Decided K) where
  -- nothing refuses a load that is in order of the text of a table
  nothing_met : (s : State F) (text : List ℕ) (to : ℕ) (r : Refusal) → CanLoad s to → IsTableText K text → Meets K s (load text to) r → ⊥
  nothing_met s text to r h k (outside p (inl m) f) = m
  nothing_met s text to r h k (outside p (inr (inl e)) f) = f (subst Place (sym e) h.place)
  nothing_met s text to r h k (outside p (inr (inr m)) f) = m
  nothing_met s text to r h k (short_memory l) = let memory = h.memory in omega arith
  nothing_met s text to r h k (short_work l) = let work = h.work in omega arith
  nothing_met s text to r h k (vacant p m e) = m
  nothing_met s text to r h (T, sized, is) (load_fault {f = f} x) = (decided text).0 T f sized is x

  loads : (s t : State F) (text : List ℕ) (to : ℕ) (o : Outcome) → CanLoad s to → Does K value s (load text to) o t → IsTableText K text → o ≡ Ok Done
  loads s t text to (Err r) h d k = absurd (nothing_met s text to r h k d.0.meets)
  loads s t text to (Ok a) h d k = ap Ok d.1.0

  is_text : (s t : State F) (text : List ℕ) (to : ℕ) (o : Outcome) → Does K value s (load text to) o t → o ≡ Ok Done → IsTableText K text
  is_text s t text to o d e = let x = subst (λ z. Does K value s (load text to) z t) e d in (x.1.1.0, x.1.1.1, x.1.1.2)

  accepted : (s t : State F) (text : List ℕ) (to : ℕ) (o : Outcome) → CanLoad s to → Does K value s (load text to) o t → (o ≡ Ok Done) ↔ IsTableText K text
  accepted s t text to o h d = (is_text s t text to o d, loads s t text to o h d)

  -- the directory of a use has eight entries
  eight : (cs : List Call) (os : List Outcome) (s : Shelf F) → Opening K value cs os s → length s.entries ≡ 8
  eight cs os s u = let b = use_booked K value u.uses in (use_stands K value told_apart u.opened u.uses b.0 b.1).entries

  -- a table that was made lies at its place
  record Lies (s : Shelf F) (p : ℕ) (R : Table V) : Type 0 where
    there : entry s p ≡ filled R.states R.letters
    same : SameTable (table K value s p) R

  lies : (s t : State F) (to : ℕ) (R : Table V) → Place to → length s.shelf.entries ≡ 8 → Makes K value s to R t → Lies t.shelf to R
  lies s t to R place entries m =
      let e : entry t.shelf to ≡ filled R.states R.letters = ap (λ z. at_place empty z to) m.entries ∙ at_same empty s.shelf.entries to (filled R.states R.letters) place entries in
      record { there = e; same = subst (λ z. SameTable (table_at K value t.shelf.memory (begins to) (states_of z) (letters_of z)) R) (sym e) m.numbers.same }

  -- nothing refuses a write, with room for it, of a table that lies there
  write_met : (s : State F) (p : ℕ) (R : Table V) → Place p → Lies s.shelf p R → 12544 ≤ length s.shelf.memory → text_size R.states R.letters ≤ length s.lent.output → (r : Refusal) → Meets K s (write p) r → ⊥
  write_met s p R place h memory room r (outside q (inl (inl e)) f) = f (subst Place (sym e) place)
  write_met s p R place h memory room r (outside q (inl (inr m)) f) = m
  write_met s p R place h memory room r (outside q (inr m) f) = m
  write_met s p R place h memory room r (short_memory l) = omega arith
  write_met s p R place h memory room r (short_work l) = omega arith
  write_met s p R place h memory room r (vacant q (inl e) none) = filled_not_empty R.states R.letters (sym h.there ∙ ap (entry s.shelf) (sym e) ∙ none)
  write_met s p R place h memory room r (vacant q (inr m) none) = m
  write_met s p R place h memory room r (write_room l) =
      let size : text_size (states_of (entry s.shelf p)) (letters_of (entry s.shelf p)) ≡ text_size R.states R.letters = ap (λ e. text_size (states_of e) (letters_of e)) h.there in
      omega (arith, size)

  writes : (s t : State F) (p : ℕ) (R : Table V) (o : Outcome) → Place p → Lies s.shelf p R → Sized R → 12544 ≤ length s.shelf.memory → length (text_of K R) ≤ length s.lent.output → Does K value s (write p) o t
      → (o ≡ Ok (Count (length (text_of K R)))) × (t.lent ≡ with_text s.lent (text_of K R))
  writes s t p R (Err r) place h sized memory room d = absurd (write_met s p R place h memory (omega (arith, lengths R sized)) r d.0.meets)
  writes s t p R (Ok a) place h sized memory room d =
      let e : text_of K (table K value s.shelf p) ≡ text_of K R = text_same K (table K value s.shelf p) R h.same in
      (ap Ok (d.1.0 ∙ ap (λ x. Count (length x)) e), d.1.1.lent ∙ ap (with_text s.lent) e)

  -- shelf memory has what an accepted load asked for
  memory_enough : (s : State F) (text : List ℕ) (to : ℕ) → ¬ (Meets K s (load text to) MemoryShort) → 12544 ≤ length s.shelf.memory
  memory_enough s text to u = go (dec_le 12544 (length s.shelf.memory))
    where
      go : Dec (12544 ≤ length s.shelf.memory) → 12544 ≤ length s.shelf.memory
      go (yes l) = l
      go (no v) = absurd (u (short_memory (omega arith)))

  written_as_loaded : (cs : List Call) (os : List Outcome) (s t : State F) (text : List ℕ) (to : ℕ) → Opening K value cs os s.shelf → Does K value s (load text to) (Ok Done) t → (u : Shelf F) → Untouched K value to t.shelf u
      → (l : Lent) (o : Outcome) (v : State F) → length text ≤ length l.output → Does K value (lending u l) (write to) o v → (o ≡ Ok (Count (length text))) × (v.lent ≡ with_text l text)
  written_as_loaded cs os s t text to began d u h l o v room w =
      let r = writes (lending u l) v to R o place there d.1.1.1 memory (omega (arith, ap length is)) w in
      (r.0 ∙ ap (λ x. Ok (Count (length x))) (sym is), r.1 ∙ ap (with_text l) (sym is))
    where
      R : Table V
      R = d.1.1.0

      is : text ≡ text_of K R
      is = d.1.1.2

      makes : Makes K value s to R t
      makes = d.1.1.3

      place : Place to
      place = placed K s (load text to) d.0 to (inr (inl refl))

      now : Lies t.shelf to R
      now = lies s t to R place (eight cs os s.shelf began) makes

      stays : Stays K value to t.shelf u
      stays = untouched_stays K value told_apart to t.shelf u h (cs ++ load text to ∷ []) (os ++ Ok Done ∷ []) (record { first = began.first; opened = began.opened; uses = next began.uses s.lent (load text to) (Ok Done) t d })

      there : Lies u to R
      there = record { there = stays.entry_same ∙ now.there; same = same_trans (table K value u to) (table K value t.shelf to) R (stays_table K value to t.shelf u stays) now.same }

      memory : 12544 ≤ length u.memory
      memory = omega (arith, memory_enough s text to (d.0 MemoryShort), makes.numbers.frame.len, stays.length_same)

  loaded_as_written : (cs ds : List Call) (os ps : List Outcome) (s t u v : State F) (p n to : ℕ) (o : Outcome) → Opening K value cs os s.shelf → Does K value s (write p) (Ok (Count n)) t → Opening K value ds ps u.shelf → CanLoad u to
      → Does K value u (load (take n t.lent.output) to) o v → (o ≡ Ok Done) × SameTable (table K value s.shelf p) (table K value v.shelf to)
  loaded_as_written cs ds os ps s t u v p n to o began d other h l =
      let is : o ≡ Ok Done = loads u v (take n t.lent.output) to o h l (T, sized, read) in
      let x = subst (λ z. Does K value u (load (take n t.lent.output) to) z v) is l in
      let R = x.1.1.0 in
      let there = lies u v to R h.place (eight ds ps u.shelf other) x.1.1.3 in
      (is, same_trans T R (table K value v.shelf to) (told_apart T R sized x.1.1.1 (sym read ∙ x.1.1.2)) (same_sym (table K value v.shelf to) R there.same))
    where
      T : Table V
      T = table K value s.shelf p

      sized : Sized T
      sized =
          let b = use_booked K value began.uses in
          (source K value s.shelf b.0 p (use_stands K value told_apart began.opened began.uses b.0 b.1) (placed K s (write p) d.0 p (inl (inl refl))) (full K s (write p) d.0 p (inl refl))).limits

      count : n ≡ length (text_of K T)
      count = ap counted d.1.0

      read : take n t.lent.output ≡ text_of K T
      read = ap₂ take count (ap (λ z. z.output) d.1.1.lent) ∙ take_at (text_of K T) (drop (length (text_of K T)) s.lent.output) (length (text_of K T)) refl

  pub round_trips : LoadAndWriteUndoEachOther K value
  round_trips = record { accepted = accepted; written_as_loaded = written_as_loaded; loaded_as_written = loaded_as_written }
