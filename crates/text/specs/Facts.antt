-- What holds of every text. Assumes nothing.
use Rattle.std.specs.Prelude.{◌≡◌, ℕ, List, length}
use Rattle.field.specs.FiniteField.{FiniteField}
use Rattle.series.specs.Tables.{Table, SameTable}
use Rattle.rows.specs.Layout.{table_at}
use Rattle.text.specs.Texts.{text_of, text_size}
use Rattle.text.specs.Readings.{Sized, Accepts, Refuses}
use Rattle.faults.specs.declared.LoadFault.{LoadFault}
use Rattle.rows.specs.declared.table.Shape.{Shape}

module _ {V : Type 0} (K : FiniteField V) where
  -- the byte count goes by the table's size
  abbrev pub LengthIs : Type 0
  LengthIs = (T : Table V) → Sized T → length (text_of K T) ≡ text_size T.states T.letters

  -- two tables with one text agree number for number
  abbrev pub ToldApart : Type 0
  ToldApart = (S T : Table V) → Sized S → Sized T → text_of K S ≡ text_of K T → SameTable S T

  -- the text of a table is not refused, and a text that is refused has one fault
  abbrev pub Decided : Type 0
  Decided = (text : List ℕ) → ((T : Table V) (f : LoadFault) → Sized T → text ≡ text_of K T → Refuses K text f → ⊥) × ((f g : LoadFault) → Refuses K text f → Refuses K text g → f ≡ g)

  module _ {F : Type 0} (value : F → V) where
    -- a reader of what was written has the table back, and no fault
    abbrev pub ReadBack : Type 0
    ReadBack = (T : Table V) → Sized T → ((shape : Shape) (work : List F) → Accepts K value (text_of K T) shape work → SameTable T (table_at K value work 0 shape.states shape.letters)) × ((f : LoadFault) → Refuses K (text_of K T) f → ⊥)

    -- a writer of what was read has the text back
    abbrev pub WrittenBack : Type 0
    WrittenBack = (text : List ℕ) (shape : Shape) (work : List F) → Accepts K value text shape work → text_of K (table_at K value work 0 shape.states shape.letters) ≡ text
