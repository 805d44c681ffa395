-- What packing is for, over any field. What a theorem turns on is an argument, which the contract that promises the theorem gives. Assumes nothing.
use Rattle.std.specs.Prelude.{◌≡◌, ℕ, ◌↔◌, List}
use Rattle.field.specs.FiniteField.{FiniteField}
use Rattle.series.specs.Tables.{Table}
use Rattle.series.specs.Comparing.{Alike}
use Rattle.packing.specs.Packing.{PackedForm, packed_text}

module _ {V : Type 0} (K : FiniteField V) where
  -- the packed table's number of states, and that of any table with the letter count and the weights of the text's table
  abbrev pub PackedStates : (ℕ → ℕ → Type 0) → Type 0
  PackedStates Compare = (text : List ℕ) (p : PackedForm K text) (T : Table V) → T.letters ≡ p.table.letters → Alike K p.table T → Compare p.packed.states T.states

  -- two texts have one packed text exactly where this holds of their tables
  abbrev pub SamePackedText : (Table V → Table V → Type 0) → Type 0
  SamePackedText Agreeing = (first second : List ℕ) (p : PackedForm K first) (q : PackedForm K second) → (packed_text K p ≡ packed_text K q) ↔ Agreeing p.table q.table
