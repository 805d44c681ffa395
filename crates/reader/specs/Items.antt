-- What is due in a text, item by item, and where a reader of it stops. Assumes nothing.
use Rattle.std.specs.Prelude.{◌≡◌, ℕ, ◌+◌, ◌^◌, ◌<◌, ◌≤◌, ◌⊎◌, List, [], ◌∷◌, ◌++◌, map, length, take}
use Rattle.columns.specs.Numbers.{number, Begins}
use Rattle.faults.specs.declared.Position.{Position}
use Rattle.faults.specs.declared.LineFault.{LineFault}
use Rattle.faults.specs.declared.LineFault.TheVariants.{Column, Ends, Unexpected, Unended}
use Rattle.faults.specs.declared.LoadFault.{LoadFault}
use Rattle.faults.specs.declared.LoadFault.TheVariants.{Line, Value, Beyond}

-- what is due: a line's first byte, a number from one to another, or a line's end
pub data Item : Type 0 where
  first : ℕ → Item
  ranged : ℕ → ℕ → Item
  close : Item

-- how many bytes it takes
abbrev pub width : Item → ℕ
width (first b) = 1
width (ranged low high) = 11
width close = 1

-- the bytes begin the item, whatever the number
abbrev pub Opens : Item → List ℕ → Type 0
Opens (first b) bs = take (length bs) (b ∷ []) ≡ bs
Opens (ranged low high) bs = Begins bs
Opens close bs = take (length bs) (10 ∷ []) ≡ bs

-- c columns further
abbrev pub along : Position → ℕ → Position
along p c = record { line = p.line; column = p.column + c }

-- the position after an item
abbrev pub after : Item → Position → Position
after (first b) p = along p 1
after (ranged low high) p = along p 11
after close p = record { line = p.line + 1; column = 1 }

-- the fault of a byte that cannot stand at this position of the item
abbrev pub named : Item → Position → LineFault
named (first b) p = Unexpected p
named (ranged low high) p = Column (record { position = p })
named close p = Unended p

-- byte c, from 0: the bytes before it begin the item, and with it they begin none
pub record Breaks (item : Item) (rest : List ℕ) (c : ℕ) : Type 0 where
  pub inside : c < width item
  pub reached : c < length rest
  pub before : Opens item (take c rest)
  pub here : Opens item (take (c + 1) rest) → ⊥

-- the text ends inside the item
pub record Ended (item : Item) (rest : List ℕ) : Type 0 where
  pub short : length rest < width item
  pub opens : Opens item rest

-- the fault of a line that stops in the item: p is the item's position, and rest what is left of the text
abbrev pub Halts : Item → Position → List ℕ → LineFault → Type 0
Halts item p rest f = (Ended item rest × (f ≡ Ends (along p (length rest)))) ⊎ ((c : ℕ) × Breaks item rest c × (f ≡ named item (along p c)))

-- a number that is judged, and refused, once its columns are read
abbrev pub Misfits : Item → Position → List ℕ → Position → Type 0
Misfits (first b) p rest at = ⊥
Misfits (ranged low high) p rest at = (v : ℕ) × (v < 10 ^ 10) × (take 11 rest ≡ number v) × ((v < low) ⊎ (high < v)) × (at ≡ p)
Misfits close p rest at = ⊥

-- the fault of a text that stops in the item
abbrev pub Stopped : Item → Position → List ℕ → LoadFault → Type 0
Stopped item p rest (Line f) = Halts item p rest f
Stopped item p rest (Value at) = Misfits item p rest at
Stopped item p rest (Beyond at) = ⊥

-- the bytes are the item's, and its number is within the limits
abbrev pub Passes : Item → List ℕ → Type 0
Passes (first b) bs = bs ≡ b ∷ []
Passes (ranged low high) bs = (v : ℕ) × (v < 10 ^ 10) × (low ≤ v) × (v ≤ high) × (bs ≡ number v)
Passes close bs = bs ≡ 10 ∷ []

-- the bytes are those of the items, one after another
unfoldable pub Goes : List Item → List ℕ → Type 0
Goes [] bs = bs ≡ []
Goes (i ∷ is) bs = (a : List ℕ) × (b : List ℕ) × Passes i a × Goes is b × (bs ≡ a ++ b)

-- a reader of the items passes some of them and stops in the next
unfoldable pub Stops : List Item → Position → List ℕ → LoadFault → Type 0
Stops [] p bs f = ⊥
Stops (i ∷ is) p bs f = Stopped i p bs f ⊎ ((a : List ℕ) × (b : List ℕ) × Passes i a × (bs ≡ a ++ b) × Stops is (after i p) b f)

-- a number for each of the values, of just that value
abbrev pub exact_items : List ℕ → List Item
exact_items vs = map (λ v. ranged v v) vs

-- a line's items
abbrev pub line_items : ℕ → List Item → List Item
line_items b is = first b ∷ (is ++ close ∷ [])
