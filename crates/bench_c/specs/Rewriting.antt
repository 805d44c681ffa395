-- What reading a text and writing it again does. Assumes nothing.
use Rattle.std.specs.Prelude.{◌≡◌, ℕ, ◌<◌, ◌≤◌, List, ◌++◌, length, drop}
use Rattle.field.specs.FiniteField.{FiniteField}
use Rattle.series.specs.Tables.{Table}
use Rattle.text.specs.Texts.{text_of}
use Rattle.text.specs.Readings.{Sized, Refuses}
use Rattle.faults.specs.declared.LoadFault.{LoadFault}

module _ {V : Type 0} (K : FiniteField V) where
  -- what becomes of an output, and how many bytes are written: the text of a table at its front, while later bytes stay; nothing where the text is refused or
  -- has more bytes than the output
  pub data Rewrites (text output : List ℕ) : ℕ → List ℕ → Type 0 where
    refused : (f : LoadFault) → Refuses K text f → Rewrites text output 0 output
    no_room : (T : Table V) → Sized T → text ≡ text_of K T → length output < length text → Rewrites text output 0 output
    rewritten : (T : Table V) → Sized T → text ≡ text_of K T → length text ≤ length output → Rewrites text output (length text) (text ++ drop (length text) output)
