-- The law that every use follows. Assumes nothing.
use Rattle.std.specs.Prelude.{◌≡◌, ℕ, suc, ◌+◌, ◌<◌, ◌≤◌, ◌≢◌, ◌⊎◌, ◌↔◌, List, ◌++◌, map, length, take, drop, slice_get, slice_index_or, Some, Ok, Err}
use Rattle.field.specs.FiniteField.{FiniteField}
use Rattle.series.specs.Words.{Word, Over}
use Rattle.series.specs.Tables.{Table, weight, SameTable}
use Rattle.series.specs.Comparing.{Alike, LeastDifference}
use Rattle.rows.specs.Layout.{table_size}
use Rattle.book.specs.Shelves.{Entry, empty, filled, Shelf, Lent, State, Opened, InRange, entry, states_of, letters_of, begins, table}
use Rattle.book.specs.Calls.{Call, reduce, weigh, compare}
use Rattle.book.specs.Verdicts.{kind_number, reported}
use Rattle.book.specs.Doing.{Does}
use Rattle.book.specs.Using.{lending, Use, CallAt, Leads, Course, Opening, Changes, Untouched, Page, blank, holds, weights_on, page, Book}
use Rattle.book.specs.Running.{call_in, given, taken_back, CarriesOut, Run}
use Rattle.book.specs.Settling.{OutcomesAreSettled}
use Rattle.book.specs.RoundTrips.{LoadAndWriteUndoEachOther}
use Rattle.book.specs.declared.call.Request.{Request}
use Rattle.book.specs.declared.refusal.Refusal.{Refusal}
use Rattle.book.specs.declared.verdict.Verdict.{Verdict}
use Rattle.book.specs.declared.outcome.Answer.{Answer}
use Rattle.book.specs.declared.outcome.Answer.TheVariants.{Code, Told}
use Rattle.book.specs.Outcomes.{Outcome}

-- two pages with one letter count and one weight for every word over those letters, or both blank
abbrev pub SamePage : {V : Type 0} → Page V → Page V → Type 0
SamePage blank blank = Unit {0}
SamePage blank (holds j g) = ⊥
SamePage (holds k f) blank = ⊥
SamePage (holds k f) (holds j g) = (k ≡ j) × ((w : Word) → Over k w → f w ≡ g w)

module _ {V : Type 0} (K : FiniteField V) where
  -- the entry is filled exactly where the page is, and then the table has the page's letter count
  -- and, for every word, the page's weight
  abbrev pub Matches : Entry → Page V → Table V → Type 0
  Matches empty blank T = Unit {0}
  Matches empty (holds j f) T = ⊥
  Matches (filled n k) blank T = ⊥
  Matches (filled n k) (holds j f) T = (k ≡ j) × ((w : Word) → Over k w → weight K T w ≡ f w)

  -- some word weighs differently under the two tables
  abbrev pub Differ : Table V → Table V → Type 0
  Differ S T = (w : Word) × Over S.letters w × (weight K S w ≢ weight K T w)

  -- what a verdict reports of two tables
  pub record Reports (S T : Table V) (v : Verdict) : Type 0 where
    -- kind 1 reports a word, and kind 0 none
    pub kinds : (kind_number v.kind ≡ 0) ⊎ (kind_number v.kind ≡ 1)
    -- a word exactly when some word weighs differently under the two
    pub exactly : (kind_number v.kind ≡ 1) ↔ Differ S T
    -- the least such word in shortlex order, with fewer letters than both tables have states
    pub least : kind_number v.kind ≡ 1 → LeastDifference K S T (reported v)
    pub short : kind_number v.kind ≡ 1 → length (reported v) < S.states + T.states

  -- every table with the letter count and the weights of this one has at least as many states
  abbrev pub HasFewestStates : Table V → Type 0
  HasFewestStates R = (T : Table V) → T.letters ≡ R.letters → Alike K R T → R.states ≤ T.states

module _ {V : Type 0} (K : FiniteField V) {F : Type 0} (value : F → V) where
  -- R is what a use's reduce left, where it lies still
  pub record Reduces (R : Table V) : Type 0 where
    -- the use came to this shelf
    pub cs : List Call
    pub os : List Outcome
    pub before : Shelf F
    pub use_of : Opening K value cs os before
    -- there it called reduce, which was accepted
    pub lent : Lent
    pub place : ℕ
    pub to : ℕ
    pub answer : Answer
    pub left : State F
    pub does : Does K value (lending before lent) (reduce place to) (Ok answer) left
    -- and since then the place was neither made nor cleared
    pub there : Shelf F
    pub since : Untouched K value to left.shelf there
    pub is : R ≡ table K value there to

  -- the very elements at place p, and its entry, are the same on both shelves
  pub record LiesOn (p : ℕ) (s t : Shelf F) : Type 0 where
    pub entry_same : entry t p ≡ entry s p
    pub elements : (i : ℕ) (x : F) → begins p ≤ i
        → i < begins p + table_size (states_of (entry s p)) (letters_of (entry s p))
        → slice_index_or t.memory i x ≡ slice_index_or s.memory i x

  -- the answer is the code of the word's weight on the page of place p
  abbrev pub IsWeightInBook : List (Page V) → ℕ → Word → Answer → Type 0
  IsWeightInBook B p w a = a ≡ Code (K.code (weights_on K (page K B p) w))

  -- the answer is this verdict, and it reports of the tables at the two places
  pub record IsVerdictOn (s : Shelf F) (p q : ℕ) (v : Verdict) (a : Answer) : Type 0 where
    pub told : a ≡ Told v
    pub reports : Reports K (table K value s p) (table K value s q) v

  -- what holds of a use that made the calls cs with the outcomes os, and came to s
  pub record Follows (cs : List Call) (os : List Outcome) (s : Shelf F)
      (u : Opening K value cs os s) : Type 0 where
    -- each call was refused exactly under the stated conditions, and otherwise did what is defined
    pub each : (i : ℕ) → i < length cs → (c : Call) (o : Outcome)
        → CallAt K value u.first cs os i c o
    -- there are eight entries, each empty or in range, and shelf memory keeps its length
    pub eight : length s.entries ≡ 8
    pub in_range : (p : ℕ) → InRange (entry s p)
    pub same_length : length s.memory ≡ length u.first.memory
    -- the use has a book, and one only
    pub booked : (B : List (Page V)) × Book K cs os B
    pub one_book : (B B' : List (Page V)) → Book K cs os B → Book K cs os B'
        → (p : ℕ) → SamePage (page K B p) (page K B' p)
    -- places and weights: tables lie exactly where the book is filled, with its letter counts and,
    -- for every word, its weight
    pub tables : (B : List (Page V)) → Book K cs os B
        → (p : ℕ) → Matches K (entry s p) (page K B p) (table K value s p)
    -- and an accepted weigh returns the code of its word's weight in the book
    pub weighs : (B : List (Page V)) → Book K cs os B
        → (l : Lent) (p : ℕ) (w : Word) (a : Answer) (t : State F)
        → Does K value (lending s l) (weigh p w) (Ok a) t → IsWeightInBook B p w a
    -- least difference: an accepted compare reports a word exactly when some word weighs differently
    -- under its two tables, and then the least
    pub compares : (l : Lent) (p q : ℕ) (a : Answer) (t : State F)
        → Does K value (lending s l) (compare p q) (Ok a) t → IsVerdictOn s p q t.lent.verdict a
    -- what lies at a place lies there, the very elements, until the place is made or cleared anew
    pub lies_on : (p : ℕ) (t : Shelf F) → Untouched K value p s t → LiesOn p s t

  -- what holds of what a use's reduce left, for as long as it lies
  pub record Smallest (R : Table V) : Type 0 where
    pub reduces : Reduces R
    -- every other table with its letter count and its weights has at least as many states
    pub fewest : HasFewestStates K R
    -- and another such with its letter count, also from another use, agrees with it number for
    -- number exactly when the two weigh every word alike
    pub one_form : (S : Table V) → Reduces S → R.letters ≡ S.letters → SameTable R S ↔ Alike K R S

  -- what holds of a use at each of its calls, and at each of the shelves that it passed, which are
  -- numbered by how many of the calls were made
  pub record FollowsThroughout (cs : List Call) (os : List Outcome) (s : Shelf F)
      (u : Opening K value cs os s) (after : ℕ → Shelf F) : Type 0 where
    pub course : Course (Leads K value) u.first cs os s after
    -- to each the calls before it came, from each the other calls lead to s, and at each it follows
    pub came : (i : ℕ) → i ≤ length cs → Use K value u.first (take i cs) (take i os) (after i)
    pub onward : (i : ℕ) → i ≤ length cs → Use K value (after i) (drop i cs) (drop i os) s
    pub follows : (i : ℕ) (l : i ≤ length cs) → Follows (take i cs) (take i os) (after i)
        (record { first = u.first; opened = u.opened; uses = came i l })
    -- places and weights: an accepted weigh among the calls returned the code of its word's weight
    -- in the book as it then was
    pub weighed : (i p : ℕ) (w : Word) (a : Answer)
        → slice_get cs i ≡ Some (weigh p w) → slice_get os i ≡ Some (Ok a)
        → (B : List (Page V)) → Book K (take i cs) (take i os) B → IsWeightInBook B p w a
    -- least difference: an accepted compare among them returned a verdict, which reports of its two
    -- tables as they then lay
    pub compared : (i p q : ℕ) (a : Answer)
        → slice_get cs i ≡ Some (compare p q) → slice_get os i ≡ Some (Ok a)
        → (v : Verdict) × IsVerdictOn (after i) p q v a
    -- a place is untouched from one shelf to a later one where none of the calls between made or
    -- cleared it
    pub untouched : (p i j : ℕ) → i ≤ j → j ≤ length cs
        → ((k : ℕ) (c : Call) (o : Outcome) → i ≤ k → k < j
        → slice_get cs k ≡ Some c → slice_get os k ≡ Some o → ¬ (Changes c o p))
        → Untouched K value p (after i) (after j)
    -- smallest form: what an accepted reduce among them left is the smallest there is, and the only
    -- one, for as long as its place is untouched
    pub reduced : (i j p to : ℕ) (a : Answer) → i < j → j ≤ length cs
        → slice_get cs i ≡ Some (reduce p to) → slice_get os i ≡ Some (Ok a)
        → Untouched K value to (after (suc i)) (after j) → Smallest (table K value (after j) to)

  -- requested calls led from the state first, whose shelf is open, to t: they are a use that started
  -- there, it follows where it came to, and throughout on the shelves of the states that they passed,
  -- where each request was carried out with what it was given of what was lent
  pub record MadeFromOpen (first : State F) (rs : List Request) (os : List Outcome) (t : State F)
      : Type 0 where
    pub use_of : Opening K value (map call_in rs) os t.shelf
    pub starts : use_of.first ≡ first.shelf
    pub follows : Follows (map call_in rs) os t.shelf use_of
    pub after : ℕ → State F
    pub course : Course (CarriesOut K value) first rs os t after
    pub throughout : FollowsThroughout (map call_in rs) os t.shelf use_of (λ i. (after i).shelf)

  -- so it is wherever requested calls were made from open
  abbrev pub RunFollows : State F → List Request → List Outcome → State F → Type 0
  RunFollows first rs os t = Opened first.shelf → MadeFromOpen first rs os t

  -- the law
  pub record UsesFollowTheBook : Type 0 where
    pub every_use : (cs : List Call) (os : List Outcome) (s : Shelf F)
        (u : Opening K value cs os s) → Follows cs os s u
    -- every use has a course of shelves, and on each course it follows throughout
    pub courses : (first s : Shelf F) (cs : List Call) (os : List Outcome)
        → Use K value first cs os s
        → (after : ℕ → Shelf F) × Course (Leads K value) first cs os s after
    pub throughout : (cs : List Call) (os : List Outcome) (s : Shelf F)
        (u : Opening K value cs os s) (after : ℕ → Shelf F)
        → Course (Leads K value) u.first cs os s after → FollowsThroughout cs os s u after
    -- requested calls, made one after another, are calls on one shelf, and from open they are a use
    pub runs : (first t : State F) (rs : List Request) (os : List Outcome)
        → Run K value first rs os t → Use K value first.shelf (map call_in rs) os t.shelf
    -- they have a course of states, whose shelves are a course of the calls
    pub run_courses : (first t : State F) (rs : List Request) (os : List Outcome)
        → Run K value first rs os t
        → (after : ℕ → State F) × Course (CarriesOut K value) first rs os t after
    pub course_of_calls : (first t : State F) (rs : List Request) (os : List Outcome)
        (after : ℕ → State F) → Course (CarriesOut K value) first rs os t after
        → Course (Leads K value) first.shelf (map call_in rs) os t.shelf (λ i. (after i).shelf)
    -- calls that go on where others came to are one list of calls with them
    pub joined : (first s t : Shelf F) (cs ds : List Call) (os ps : List Outcome)
        → Use K value first cs os s → Use K value s ds ps t
        → Use K value first (cs ++ ds) (os ++ ps) t
    -- and a requested one that is refused leaves all that was lent as it was
    pub refused_leaves : (s t : State F) (r : Request) (f : Refusal)
        → Does K value (given s r) (call_in r) (Err f) t → taken_back s r t ≡ s
    -- smallest form: every other table with the letter count and the weights of one that reduce left
    -- has at least as many states
    pub fewest : (R : Table V) → Reduces R → HasFewestStates K R
    -- two such with one letter count, also from two uses, agree number for number exactly when they
    -- weigh every word alike
    pub one_form : (R S : Table V) → Reduces R → Reduces S → R.letters ≡ S.letters
        → SameTable R S ↔ Alike K R S
    -- a call has one outcome and leaves one state, by value
    pub settled : OutcomesAreSettled K value
    -- load accepts the texts that write makes, and each undoes the other
    pub round_trips : LoadAndWriteUndoEachOther K value
