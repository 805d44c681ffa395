-- The shelf: a directory of eight entries, and the memory in which the tables lie. Assumes nothing.
use Rattle.std.specs.Prelude.{◌≡◌, ℕ, zero, suc, ◌-◌, ◌*◌, ◌≤◌, List, replicate, slice_index_or, slice_set}
use Rattle.field.specs.FiniteField.{FiniteField}
use Rattle.series.specs.Tables.{Table}
use Rattle.rows.specs.Layout.{table_at}
use Rattle.text.specs.Texts.{Limits}
use Rattle.book.specs.declared.verdict.Verdict.{Verdict}

-- places are numbered 1 to 8
abbrev pub Place : ℕ → Type 0
Place p = (1 ≤ p) × (p ≤ 8)

-- the element of a list for place p, the first for place 1; `nothing` for place 0 and past its end
abbrev pub at_place : {X : Type 0} → X → List X → ℕ → X
at_place nothing xs zero = nothing
at_place nothing xs (suc i) = slice_index_or xs i nothing

-- the list with x for place p, and the others the same
abbrev pub with_place : {X : Type 0} → List X → ℕ → X → List X
with_place xs zero x = xs
with_place xs (suc i) x = slice_set xs i x

-- an entry of the directory is empty, or holds how many states and letters the table at its place has
pub data Entry : Type 0 where
  empty : Entry
  filled : (n k : ℕ) → Entry

-- how many states it holds
abbrev pub states_of : Entry → ℕ
states_of empty = 0
states_of (filled n k) = n

-- how many letters it holds
abbrev pub letters_of : Entry → ℕ
letters_of empty = 0
letters_of (filled n k) = k

-- an entry that a directory may hold: empty, or at most 16 states and from 1 to 6 letters
abbrev pub InRange : Entry → Type 0
InRange empty = Unit {0}
InRange (filled n k) = Limits n k

-- the directory's entries, by place, and shelf memory
pub record Shelf (F : Type 0) : Type 0 where
  pub entries : List Entry
  pub memory : List F

-- what a call is lent besides: how many elements of work memory, an output, and a verdict record
pub record Lent : Type 0 where
  pub work : ℕ
  pub output : List ℕ
  pub verdict : Verdict

-- all that a call is handed
pub record State (F : Type 0) : Type 0 where
  pub shelf : Shelf F
  pub lent : Lent

-- what open gives: eight empty entries, and anything in shelf memory
abbrev pub Opened : {F : Type 0} → Shelf F → Type 0
Opened s = s.entries ≡ replicate 8 empty

-- the entry of place p; empty for a place outside 1 to 8
abbrev pub entry : {F : Type 0} → Shelf F → ℕ → Entry
entry s p = at_place empty s.entries p

-- the element at which place p, from 1, begins
abbrev pub begins : ℕ → ℕ
begins p = (p - 1) * 1568

-- the table at place p
abbrev pub table : {V : Type 0} → FiniteField V → {F : Type 0} → (F → V) → Shelf F → ℕ → Table V
table K value s p = table_at K value s.memory (begins p) (states_of (entry s p)) (letters_of (entry s p))
