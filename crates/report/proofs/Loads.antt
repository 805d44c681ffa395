-- What loading two texts leaves, and why loading and comparing are refused. Assumes nothing.
use Rattle.std.proofs.Common.{◌≡◌, ℕ, ◌≤◌, ◌≢◌, List, length, sym, refl, ap, ◌∙◌, subst, inl, inr, arith}
use Rattle.field.specs.FiniteField.{FiniteField}
use Rattle.series.specs.Tables.{Table, SameTable}
use Rattle.field.specs.Rows.{at}
use Rattle.rows.specs.Layout.{table_at}
use Rattle.rows.proofs.Memory.{frame_below}
use Rattle.text.specs.Readings.{Sized, Refuses as TextRefused}
use Rattle.faults.specs.declared.LoadFault.{LoadFault}
use Rattle.book.specs.Shelves.{Entry, empty, filled, Shelf, State, Place, at_place, entry, states_of, letters_of, table}
use Rattle.book.specs.Calls.{load, compare}
use Rattle.book.specs.Refusing.{Meets, outside, short_memory, short_work, vacant, compare_letters, load_fault}
use Rattle.book.specs.Doing.{Makes}
use Rattle.book.specs.declared.refusal.Refusal.{Refusal}
use Rattle.book.specs.declared.refusal.Refusal.TheVariants.{LettersDiffer, Unreadable}
use Rattle.book.proofs.Places.{at_same, at_other, length_with}
use Rattle.text.proofs.Limits.{block_fits}
use Rattle.book.proofs.Blocks.{same_trans, same_by_values}

abbrev IsFilled : Entry → Type 0
IsFilled empty = ⊥
IsFilled (filled n k) = Unit {0}

filled_not_empty : (n k : ℕ) → filled n k ≢ empty
filled_not_empty n k e = subst IsFilled e tt

module _ {V : Type 0} (K : FiniteField V) {F : Type 0} (value : F → V) where
  -- with room, a load into a place is refused for its text alone
  pub load_refused : (s : State F) (text : List ℕ) (to : ℕ) (r : Refusal) → Place to → 12544 ≤ length s.shelf.memory → 8192 ≤ s.lent.work → Meets K s (load text to) r → (f : LoadFault) × (r ≡ Unreadable f) × TextRefused K text f
  load_refused s text to r place memory work (outside p (inl m) f) = absurd m
  load_refused s text to r place memory work (outside p (inr (inl e)) f) = absurd (f (subst Place (sym e) place))
  load_refused s text to r place memory work (outside p (inr (inr m)) f) = absurd m
  load_refused s text to r place memory work (short_memory h) = absurd (omega arith)
  load_refused s text to r place memory work (short_work h) = absurd (omega arith)
  load_refused s text to r place memory work (vacant p m e) = absurd m
  load_refused s text to r place memory work (load_fault h) = (_, refl, h)

  -- the tables of two places, as they were loaded
  pub record Loaded (s : Shelf F) (R Q : Table V) : Type 0 where
    pub first_entry : entry s 1 ≡ filled R.states R.letters
    pub second_entry : entry s 2 ≡ filled Q.states Q.letters
    pub first_same : SameTable (table K value s 1) R
    pub second_same : SameTable (table K value s 2) Q

  pub both_loaded : (s t u w : State F) (R Q : Table V) → length s.shelf.entries ≡ 8 → Sized R → Makes K value s 1 R t → u.shelf ≡ t.shelf → Makes K value u 2 Q w → Loaded w.shelf R Q
  both_loaded s t u w R Q eight sized one same two = record {
    first_entry = left;
    second_entry = right;
    first_same = subst (λ e. SameTable (table_at K value mem 0 (states_of e) (letters_of e)) R) (sym left) (same_trans (table_at K value mem 0 R.states R.letters) (table_at K value old 0 R.states R.letters) R stays one.numbers.same);
    second_same = subst (λ e. SameTable (table_at K value mem 1568 (states_of e) (letters_of e)) Q) (sym right) two.numbers.same;
  }
    where
      mem : List F
      mem = w.shelf.memory

      old : List F
      old = t.shelf.memory

      eight_then : length u.shelf.entries ≡ 8
      eight_then = ap (λ z. length z.entries) same ∙ ap length one.entries ∙ length_with s.shelf.entries 1 (filled R.states R.letters) ∙ eight

      there : entry u.shelf 1 ≡ filled R.states R.letters
      there = ap (λ z. entry z 1) same ∙ ap (λ z. at_place empty z 1) one.entries ∙ at_same empty s.shelf.entries 1 (filled R.states R.letters) (omega arith, omega arith) eight

      left : entry w.shelf 1 ≡ filled R.states R.letters
      left = ap (λ z. at_place empty z 1) two.entries ∙ at_other empty u.shelf.entries 2 1 (filled Q.states Q.letters) (omega arith) ∙ there

      right : entry w.shelf 2 ≡ filled Q.states Q.letters
      right = ap (λ z. at_place empty z 2) two.entries ∙ at_same empty u.shelf.entries 2 (filled Q.states Q.letters) (omega arith, omega arith) eight_then

      stays : SameTable (table_at K value mem 0 R.states R.letters) (table_at K value old 0 R.states R.letters)
      stays = same_by_values K value mem old 0 R.states R.letters (λ i low high. frame_below K value two.numbers.frame i (omega (arith, block_fits R.states R.letters sized)) ∙ ap (λ z. at K value z.memory i) same)

  -- with room and both places filled, a compare is refused for the letter counts alone
  pub compare_refused : (s : State F) (r : Refusal) (R Q : Table V) → Loaded s.shelf R Q → 12544 ≤ length s.shelf.memory → 8192 ≤ s.lent.work → Meets K s (compare 1 2) r → (r ≡ LettersDiffer) × (R.letters ≢ Q.letters)
  compare_refused s r R Q l memory work (outside p (inl (inl e)) f) = absurd (f (subst Place (sym e) (omega arith, omega arith)))
  compare_refused s r R Q l memory work (outside p (inl (inr (inl e))) f) = absurd (f (subst Place (sym e) (omega arith, omega arith)))
  compare_refused s r R Q l memory work (outside p (inl (inr (inr m))) f) = absurd m
  compare_refused s r R Q l memory work (outside p (inr m) f) = absurd m
  compare_refused s r R Q l memory work (short_memory h) = absurd (omega arith)
  compare_refused s r R Q l memory work (short_work h) = absurd (omega arith)
  compare_refused s r R Q l memory work (vacant p (inl e) none) = absurd (filled_not_empty R.states R.letters (sym l.first_entry ∙ ap (entry s.shelf) (sym e) ∙ none))
  compare_refused s r R Q l memory work (vacant p (inr (inl e)) none) = absurd (filled_not_empty Q.states Q.letters (sym l.second_entry ∙ ap (entry s.shelf) (sym e) ∙ none))
  compare_refused s r R Q l memory work (vacant p (inr (inr m)) none) = absurd m
  compare_refused s r R Q l memory work (compare_letters h) = (refl, λ e. h (ap letters_of l.first_entry ∙ e ∙ sym (ap letters_of l.second_entry)))
