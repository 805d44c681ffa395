-- What clear does with the entries. It is handed nothing else, and no field. Assumes nothing.
use Rattle.std.specs.Prelude.{◌≡◌, ℕ, ◌≢◌, ◌⊎◌, List, Ok, Err, Result}
use Rattle.field.specs.FiniteField.{FiniteField}
use Rattle.book.specs.Shelves.{Entry, empty, Place, at_place, with_place}
use Rattle.book.specs.declared.refusal.Refusal.{Refusal}
use Rattle.book.specs.declared.refusal.Refusal.TheVariants.{PlaceOutside, PlaceEmpty}
use Rattle.book.specs.Calls.{clear}
use Rattle.book.specs.Using.{lending}
use Rattle.shelf.specs.Views.{shelf_of, outcome_of}
use Rattle.shelf.specs.Performing.{Performs}

-- the place is one of 1 to 8 and not empty, and now it is; or it is refused, and the entries are as
-- before
abbrev pub Clears : {T : Type 0} → List Entry → ℕ → Result T Refusal → List Entry → Type 0
Clears entries p (Ok u) left =
    Place p × (at_place empty entries p ≢ empty) × (left ≡ with_place entries p empty)
Clears entries p (Err f) left =
    (((f ≡ PlaceOutside) × (¬ (Place p)))
    ⊎ ((f ≡ PlaceEmpty) × Place p × (at_place empty entries p ≡ empty)))
    × (left ≡ entries)

module _ {V : Type 0} (K : FiniteField V) {F : Type 0} (value : F → V) where
  -- that is what the call clear does, whatever lies in shelf memory and whatever is lent
  abbrev pub ClearsAsCalled : Type 0
  ClearsAsCalled =
      (entries left : List Entry) (memory : List F) (p : ℕ) (r : Result (Unit {0}) Refusal)
      → Clears entries p r left
      → Performs K value (clear p) (outcome_of r)
      (lending (shelf_of entries memory)) (lending (shelf_of left memory))
