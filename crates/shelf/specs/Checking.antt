-- What the checks that calls have in common find. Assumes nothing.
use Rattle.std.specs.Prelude.{◌≡◌, ℕ, ◌<◌, ◌≤◌, ◌⊎◌, List, [], ◌∷◌, Result, MatchResult}
use Rattle.field.specs.FiniteField.{FiniteField}
use Rattle.rows.specs.declared.table.TableRef.{TableRef}
use Rattle.book.specs.Shelves.{Entry, empty, filled, Lent, State, at_place, begins}
use Rattle.book.specs.Calls.{Call, sum, multiply, compare, Among, Names, sources, results}
use Rattle.book.specs.Refusals.{refusal_number}
use Rattle.book.specs.Refusing.{asks, Meets, Refuses}
use Rattle.book.specs.declared.refusal.Refusal.{Refusal}
use Rattle.book.specs.declared.refusal.Refusal.TheVariants.{MemoryShort, WorkShort, PlaceEmpty}
use Rattle.walk.specs.declared.pairs.Pair.{Pair}

-- the call reads the places ps, names besides them only places of qs, and asks for all of shelf
-- memory and so many elements of work memory
pub record Reads (c : Call) (ps qs : List ℕ) (work : ℕ) : Type 0 where
  pub sources_are : sources c ≡ ps
  pub results_among : (q : ℕ) → Among (results c) q → Among qs q
  pub named : (q : ℕ) → Among qs q → Names c q
  pub asks_all : asks c ≡ (12544, work)

-- the call reads two places whose tables have to have one letter count, p and q, and names the place
-- `to` besides
pub data Pairs : Call → ℕ → ℕ → ℕ → Type 0 where
  of_sum : (p q to : ℕ) → Pairs (sum p q to) p q to
  of_multiply : (p q to : ℕ) → Pairs (multiply p q to) p q to
  of_compare : (p q : ℕ) → Pairs (compare p q) p q q

-- the call is refused, or meets no condition with a number up to n
abbrev pub Checked : {V : Type 0} → FiniteField V → {F T : Type 0}
    → State F → Call → ℕ → Result T Refusal → Type 0
Checked K s c n r =
    MatchResult r (λ _. (o : Refusal) → Meets K s c o → n < refusal_number o) (Refuses K s c)

module _ {V : Type 0} (K : FiniteField V) {F T : Type 0} (s : Lent → State F) where
  -- each call that reads the place p and names `to` besides is refused, or meets no condition up
  -- to 4, whatever is lent besides
  abbrev pub ChecksOne : ℕ → ℕ → Result T Refusal → Type 0
  ChecksOne p to r =
      (c : Call) (rest : Lent) → Reads c (p ∷ []) (to ∷ []) 8192 → Checked K (s rest) c 4 r

  -- the same of each call that reads two places, whose letter counts have to agree, up to 5
  abbrev pub ChecksTwo : ℕ → ℕ → ℕ → Result T Refusal → Type 0
  ChecksTwo p q to r = (c : Call) (rest : Lent) → Pairs c p q to → Checked K (s rest) c 5 r

-- t is the table of place p, by its entry, in shelf memory
pub record Found {F : Type 0} (entries : List Entry) (memory : List F) (p : ℕ) (t : TableRef F)
    : Type 0 where
  pub told : at_place empty entries p ≡ filled t.shape.states t.shape.letters
  pub in_memory : t.memory.now ≡ memory
  pub begins_there : t.base ≡ begins p

-- there is no table at place p
pub record Vacant (entries : List Entry) (p : ℕ) (f : Refusal) : Type 0 where
  pub told : f ≡ PlaceEmpty
  pub vacant : at_place empty entries p ≡ empty

-- room to make a table
pub record Room (len work : ℕ) : Type 0 where
  pub memory : 12544 ≤ len
  pub working : 8192 ≤ work

-- shelf memory is short, or it is not and work memory is
abbrev pub Short : ℕ → ℕ → Refusal → Type 0
Short len work f =
    ((f ≡ MemoryShort) × (len < 12544))
    ⊎ ((f ≡ WorkShort) × (12544 ≤ len) × (work < 8192))

-- two tables of one letter count
pub record FoundBoth {F : Type 0} (entries : List Entry) (memory : List F) (p q : ℕ) (both : Pair F)
    : Type 0 where
  pub left : Found entries memory p both.left
  pub right : Found entries memory q both.right
