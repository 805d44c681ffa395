-- What a call does. Assumes nothing.
use Rattle.std.specs.Prelude.{◌≡◌, ℕ, List, ◌++◌, length, drop, Ok, Err}
use Rattle.field.specs.FiniteField.{FiniteField}
use Rattle.series.specs.Tables.{Table, weight}
use Rattle.series.specs.Operations.{sum_table, scaled_table, product_table, after_table, turned_table}
use Rattle.series.specs.Reducing.{Reduced}
use Rattle.rows.specs.Tables.{TableWritten}
use Rattle.text.specs.Texts.{text_of}
use Rattle.text.specs.Readings.{Sized}
use Rattle.book.specs.Shelves.{empty, filled, Lent, State, with_place, begins, table}
use Rattle.book.specs.Calls.{Call, load, sum, scale, multiply, after, turn, reduce, weigh, compare, write, clear}
use Rattle.book.specs.Refusing.{Refuses, Accepts}
use Rattle.book.specs.Verdicts.{Says}
use Rattle.book.specs.declared.verdict.Verdict.{Verdict}
use Rattle.book.specs.declared.outcome.Answer.{Answer}
use Rattle.book.specs.declared.outcome.Answer.TheVariants.{Done, Code, Told, Count}
use Rattle.book.specs.Outcomes.{Outcome}

-- the lent memory with this verdict
abbrev pub with_verdict : Lent → Verdict → Lent
with_verdict l v = record { work = l.work; output = l.output; verdict = v }

-- the lent memory with this text at the front of the output; later bytes stay
abbrev pub with_text : Lent → List ℕ → Lent
with_text l text =
    record { work = l.work; output = text ++ drop (length text) l.output; verdict = l.verdict }

module _ {V : Type 0} (K : FiniteField V) {F : Type 0} (value : F → V) where
  -- at the place `to` the entry and the numbers of R are written; every other element is the very
  -- one it was, and what is lent is as before
  pub record Makes (s : State F) (to : ℕ) (R : Table V) (t : State F) : Type 0 where
    pub entries : t.shelf.entries ≡ with_place s.shelf.entries to (filled R.states R.letters)
    pub numbers : TableWritten K value (begins to) R s.shelf.memory t.shelf.memory
    pub lent : t.lent ≡ s.lent

  -- the place is emptied, and no element written
  pub record Empties (s : State F) (p : ℕ) (t : State F) : Type 0 where
    pub entries : t.shelf.entries ≡ with_place s.shelf.entries p empty
    pub memory : t.shelf.memory ≡ s.shelf.memory
    pub lent : t.lent ≡ s.lent

  -- the shelf is as before, and what was lent is this
  pub record KeepsShelf (s : State F) (l : Lent) (t : State F) : Type 0 where
    pub shelf : t.shelf ≡ s.shelf
    pub lent : t.lent ≡ l

  -- the table at a place of the state
  abbrev table_in : State F → ℕ → Table V
  table_in s p = table K value s.shelf p

  -- what an accepted call returns, and what it leaves
  abbrev pub Leaves : State F → Call → Answer → State F → Type 0
  Leaves s (load text to) a t =
      (a ≡ Done) × ((R : Table V) × Sized R × (text ≡ text_of K R) × Makes s to R t)
  Leaves s (sum p q to) a t =
      (a ≡ Done) × Makes s to (sum_table K (table_in s p) (table_in s q)) t
  Leaves s (scale p c to) a t =
      (a ≡ Done) × Makes s to (scaled_table K (K.decode c) (table_in s p)) t
  Leaves s (multiply p q to) a t =
      (a ≡ Done) × Makes s to (product_table K (table_in s p) (table_in s q)) t
  Leaves s (after p b to) a t = (a ≡ Done) × Makes s to (after_table K b (table_in s p)) t
  Leaves s (turn p to) a t = (a ≡ Done) × Makes s to (turned_table K (table_in s p)) t
  Leaves s (reduce p to) a t =
      (a ≡ Done)
      × ((R : Table V) × Reduced K (table_in s p).letters (weight K (table_in s p)) R × Makes s to R t)
  Leaves s (weigh p w) a t =
      (a ≡ Code (K.code (weight K (table_in s p) w))) × KeepsShelf s s.lent t
  Leaves s (compare p q) a t =
      (v : Verdict) × Says K (table_in s p) (table_in s q) v
      × (a ≡ Told v) × KeepsShelf s (with_verdict s.lent v) t
  Leaves s (write p) a t =
      (a ≡ Count (length (text_of K (table_in s p))))
      × KeepsShelf s (with_text s.lent (text_of K (table_in s p))) t
  Leaves s (clear p) a t = (a ≡ Done) × Empties s p t

  -- a call is refused under the stated conditions, and then leaves all as it was; otherwise it does
  -- what is defined for it
  abbrev pub Does : State F → Call → Outcome → State F → Type 0
  Does s c (Err r) t = Refuses K s c r × (t ≡ s)
  Does s c (Ok a) t = Accepts K s c × Leaves s c a t
