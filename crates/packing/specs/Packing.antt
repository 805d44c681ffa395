-- What packing a text does. Assumes nothing.
use Rattle.std.specs.Prelude.{◌≡◌, ℕ, ◌<◌, ◌≤◌, List, ◌++◌, length, drop}
use Rattle.field.specs.FiniteField.{FiniteField}
use Rattle.series.specs.Tables.{Table, weight}
use Rattle.series.specs.Reducing.{Reduced}
use Rattle.rows.specs.Tables.{TableWritten}
use Rattle.text.specs.Texts.{text_of}
use Rattle.text.specs.Readings.{Sized, Refuses}
use Rattle.faults.specs.declared.LoadFault.{LoadFault}
use Rattle.book.specs.Verdicts.{SaysAlike}
use Rattle.book.specs.declared.refusal.Refusal.TheVariants.{MemoryShort, WorkShort, Unreadable}
use Rattle.packing.specs.declared.packed.Packed.{Packed}
use Rattle.packing.specs.declared.error.PackError.{PackError}
use Rattle.packing.specs.declared.error.PackError.TheVariants.{Refused, OutputShort}

module _ {V : Type 0} (K : FiniteField V) where
  -- the table of a text, and the packed table, which is its reduced form
  pub record PackedForm (text : List ℕ) : Type 0 where
    pub table : Table V
    pub sized : Sized table
    pub is : text ≡ text_of K table
    pub packed : Table V
    pub reduced : Reduced K table.letters (weight K table) packed

  -- the packed text: that of the packed table
  abbrev pub packed_text : {text : List ℕ} → PackedForm text → List ℕ
  packed_text p = text_of K p.packed

  module _ {F : Type 0} (value : F → V) where
    -- in shelf memory, xs before and ys after, the table now lies at element 0 and the packed one at 1568, and every other element is the very one it was
    pub record InShelf (table packed : Table V) (xs ys : List F) : Type 0 where
      pub between : List F
      pub table_written : TableWritten K value 0 table xs between
      pub packed_written : TableWritten K value 1568 packed between ys

    -- a text is packed: the memories are long enough, and the packed text stands at the front of the output, where later bytes are as before; p has the two state
    -- counts, how many bytes were written, and the verdict that the two tables weigh every word alike
    pub record Packs (text : List ℕ) (work : ℕ) (xs ys : List F) (output output' : List ℕ) (p : Packed) : Type 0 where
      pub memory_enough : 12544 ≤ length xs
      pub work_enough : 8192 ≤ work
      pub form : PackedForm text
      pub in_shelf : InShelf form.table form.packed xs ys
      pub room : length (packed_text form) ≤ length output
      pub written : output' ≡ packed_text form ++ drop (length (packed_text form)) output
      pub counted : p.bytes ≡ length (packed_text form)
      pub before : p.before ≡ form.table.states
      pub after : p.after ≡ form.packed.states
      pub says : SaysAlike K form.table form.packed p.verdict

    -- why a text is not packed: it is refused, and shelf memory is unchanged; or the output is too short for the packed text, and both tables lie in shelf memory
    pub data Fails (text : List ℕ) (work room : ℕ) (xs ys : List F) : PackError → Type 0 where
      short_memory : length xs < 12544 → ys ≡ xs → Fails text work room xs ys (Refused MemoryShort)
      short_work : 12544 ≤ length xs → work < 8192 → ys ≡ xs → Fails text work room xs ys (Refused WorkShort)
      unreadable : (f : LoadFault) → 12544 ≤ length xs → 8192 ≤ work → Refuses K text f → ys ≡ xs → Fails text work room xs ys (Refused (Unreadable f))
      short_output : 12544 ≤ length xs → 8192 ≤ work → (p : PackedForm text) → InShelf p.table p.packed xs ys → room < length (packed_text p) → Fails text work room xs ys OutputShort
