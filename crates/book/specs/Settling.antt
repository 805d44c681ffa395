-- The definitions settle what comes of a call. Assumes nothing.
use Rattle.std.specs.Prelude.{◌≡◌, ℕ, ◌+◌, ◌<◌, ◌≤◌, List, length, slice_index_or}
use Rattle.field.specs.FiniteField.{FiniteField}
use Rattle.field.specs.Rows.{at}
use Rattle.rows.specs.Layout.{table_size}
use Rattle.book.specs.Shelves.{State, entry, states_of, letters_of, begins}
use Rattle.book.specs.Calls.{Call, Among, results}
use Rattle.book.specs.Doing.{Does}
use Rattle.book.specs.Running.{Run}
use Rattle.book.specs.declared.call.Request.{Request}
use Rattle.book.specs.Outcomes.{Outcome}

-- element i is one of the table that the call left at its result place
abbrev pub InResult : {F : Type 0} → Call → State F → ℕ → Type 0
InResult c t i = (p : ℕ) × Among (results c) p × (begins p ≤ i)
    × (i < begins p + table_size (states_of (entry t.shelf p)) (letters_of (entry t.shelf p)))

module _ {V : Type 0} (K : FiniteField V) {F : Type 0} (value : F → V) where
  -- two states with the same entries and lent memory, and in shelf memory the same numbers by value
  pub record SameState (s t : State F) : Type 0 where
    pub entries : s.shelf.entries ≡ t.shelf.entries
    pub length_same : length s.shelf.memory ≡ length t.shelf.memory
    pub numbers : (i : ℕ) → at K value s.shelf.memory i ≡ at K value t.shelf.memory i
    pub lent : s.lent ≡ t.lent

  -- the state before a call determines its outcome and the state after it
  pub record OutcomesAreSettled : Type 0 where
    -- a call on the same state has one outcome and leaves one state
    pub one : (s s' t t' : State F) (c : Call) (o o' : Outcome) → SameState s s'
        → Does K value s c o t → Does K value s' c o' t' → (o ≡ o') × SameState t t'
    -- and what it leaves of one state, where the directory has its eight entries, is outside the
    -- result the very same elements
    pub others : (s t t' : State F) (c : Call) (o o' : Outcome)
        → length s.shelf.entries ≡ 8 → Does K value s c o t → Does K value s c o' t'
        → (i : ℕ) (x : F) → ¬ (InResult c t i)
        → slice_index_or t.shelf.memory i x ≡ slice_index_or t'.shelf.memory i x
    -- so has a list of calls
    pub runs : (s s' t t' : State F) (rs : List Request) (os os' : List Outcome)
        → SameState s s' → Run K value s rs os t → Run K value s' rs os' t'
        → (os ≡ os') × SameState t t'
