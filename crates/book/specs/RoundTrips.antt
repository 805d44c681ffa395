-- Load and write undo each other, as calls on a shelf. Assumes nothing.
use Rattle.std.specs.Prelude.{◌≡◌, ℕ, ◌≤◌, ◌↔◌, List, length, take, Ok}
use Rattle.field.specs.FiniteField.{FiniteField}
use Rattle.series.specs.Tables.{Table, SameTable}
use Rattle.text.specs.Texts.{text_of}
use Rattle.text.specs.Readings.{Sized}
use Rattle.book.specs.Shelves.{Shelf, Lent, State, Place, table}
use Rattle.book.specs.Calls.{Call, load, write}
use Rattle.book.specs.Doing.{with_text, Does}
use Rattle.book.specs.Using.{lending, Opening, Untouched}
use Rattle.book.specs.declared.outcome.Answer.TheVariants.{Done, Count}
use Rattle.book.specs.Outcomes.{Outcome}

-- the text is that of a table within the limits
abbrev pub IsTableText : {V : Type 0} → FiniteField V → List ℕ → Type 0
IsTableText {V} K text = (T : Table V) × Sized T × (text ≡ text_of K T)

-- the place that load names is one of 1 to 8, and it has the memory that it asks for
pub record CanLoad {F : Type 0} (s : State F) (to : ℕ) : Type 0 where
  pub place : Place to
  pub memory : 12544 ≤ length s.shelf.memory
  pub work : 8192 ≤ s.lent.work

module _ {V : Type 0} (K : FiniteField V) {F : Type 0} (value : F → V) where
  -- load accepts exactly the texts of tables, which are what write makes, and each call undoes the other
  pub record LoadAndWriteUndoEachOther : Type 0 where
    -- with place and memory in order, load is accepted exactly where the text is that of a table
    pub accepted : (s t : State F) (text : List ℕ) (to : ℕ) (o : Outcome)
        → CanLoad s to → Does K value s (load text to) o t → (o ≡ Ok Done) ↔ IsTableText K text
    -- after an accepted load, as long as its place is untouched, write leaves that very text
    pub written_as_loaded : (cs : List Call) (os : List Outcome) (s t : State F) (text : List ℕ)
        (to : ℕ)
        → Opening K value cs os s.shelf → Does K value s (load text to) (Ok Done) t
        → (u : Shelf F) → Untouched K value to t.shelf u
        → (l : Lent) (o : Outcome) (v : State F) → length text ≤ length l.output
        → Does K value (lending u l) (write to) o v
        → (o ≡ Ok (Count (length text))) × (v.lent ≡ with_text l text)
    -- a load of what a write left, also in another use, is accepted and leaves the same numbers
    pub loaded_as_written : (cs ds : List Call) (os ps : List Outcome) (s t u v : State F)
        (p n to : ℕ) (o : Outcome)
        → Opening K value cs os s.shelf → Does K value s (write p) (Ok (Count n)) t
        → Opening K value ds ps u.shelf → CanLoad u to
        → Does K value u (load (take n t.lent.output) to) o v
        → (o ≡ Ok Done) × SameTable (table K value s.shelf p) (table K value v.shelf to)
