-- Entries by place. Assumes nothing.
use Rattle.std.proofs.Common.{◌≡◌, ℕ, zero, suc, ◌+◌, ◌-◌, ◌≤◌, List, get_or, slice_set, ap, subst, arith}
use Rattle.rows.specs.Layout.{table_size}
use Rattle.rows.specs.declared.table.Shape.{Shape}
use Rattle.rows.specs.declared.table.TableRef.{TableRef}
use Rattle.rows.proofs.Shapes.{shape_fits}
use Rattle.book.specs.Shelves.{Entry, empty, Place, at_place, with_place, begins}
use Rattle.book.specs.declared.refusal.Refusal.{Refusal}
use Rattle.book.specs.declared.refusal.Refusal.TheVariants.{PlaceEmpty}
use Rattle.shelf.specs.Checking.{Found, Vacant}
use Rattle.shelf.specs.declared.place.Place.{Place as PlaceCode}

-- what is found at a place, or that nothing is, stated of its number
module _ (es : List Entry) (x : PlaceCode) (p : ℕ) (e : x.number ≡ p) where
  pub found_at : {F : Type 0} (memory : List F) (t : TableRef F) → Found es memory x.number t → Found es memory p t
  found_at memory t h = subst (λ n. Found es memory n t) e h

  pub empty_at : (f : Refusal) → Vacant es x.number f → (f ≡ PlaceEmpty) × (at_place empty es p ≡ empty)
  empty_at f h = (h.told, subst (λ n. at_place empty es n ≡ empty) e h.vacant)

pub at_get : {X : Type 0} (d : X) (xs : List X) (p : ℕ) → 1 ≤ p → at_place d xs p ≡ get_or xs (p - 1) d
at_get d xs zero l = absurd (omega arith)
at_get d xs (suc i) l = ap (λ j. get_or xs j d) (omega arith)

pub set_at : {X : Type 0} (xs : List X) (p : ℕ) (x : X) → 1 ≤ p → slice_set xs (p - 1) x ≡ with_place xs p x
set_at xs zero x l = absurd (omega arith)
set_at xs (suc i) x l = ap (λ j. slice_set xs j x) (omega arith)

-- a table of a place lies in shelf memory
pub place_fits : (z : Shape) (p len base : ℕ) → base ≡ begins p → Place p → 12544 ≤ len → base + table_size z.states z.letters ≤ len
place_fits z p len base e h l = omega (arith, shape_fits z, e, h.0, h.1)
