-- What a function that makes a call does. Assumes nothing.
use Rattle.field.specs.FiniteField.{FiniteField}
use Rattle.series.specs.Tables.{Table, SameTable}
use Rattle.rows.specs.declared.table.TableRef.{TableRef}
use Rattle.rows.specs.Seen.{table_of}
use Rattle.book.specs.Shelves.{Shelf, Lent, State}
use Rattle.book.specs.Calls.{Call}
use Rattle.book.specs.Doing.{Makes, Does}
use Rattle.book.specs.Using.{lending}
use Rattle.book.specs.Outcomes.{Outcome}
use Rattle.shelf.specs.declared.place.Place.{Place}

module _ {V : Type 0} (K : FiniteField V) {F : Type 0} (value : F → V) where
  -- the call does what is defined for it, whatever is lent besides, which is the same in both states
  abbrev pub Performs : Call → Outcome → (Lent → State F) → (Lent → State F) → Type 0
  Performs c o before after = (rest : Lent) → Does K value (before rest) c o (after rest)

  -- every table with the numbers of this one is made at the place, whatever is lent besides
  abbrev pub Keeps : TableRef F → Place → Shelf F → Shelf F → Type 0
  Keeps made to before after =
      (l : Lent) (R : Table V) → SameTable (table_of K value made) R
      → Makes K value (lending before l) to.number R (lending after l)
