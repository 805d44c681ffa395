-- Uses of a shelf, and their book. Assumes nothing.
use Rattle.std.specs.Prelude.{◌≡◌, ℕ, suc, List, [], ◌∷◌, ◌++◌, reverse, length, take, replicate, slice_get, slice_index_or, Some, Ok, Err}
use Rattle.field.specs.FiniteField.{FiniteField}
use Rattle.series.specs.Words.{Word}
use Rattle.series.specs.Tables.{Table, weight}
use Rattle.text.specs.Texts.{text_of}
use Rattle.text.specs.Readings.{Sized}
use Rattle.book.specs.Shelves.{Shelf, Lent, State, Opened, at_place, with_place}
use Rattle.book.specs.Calls.{Call, load, sum, scale, multiply, after, turn, reduce, weigh, compare, write, clear, Among, results}
use Rattle.book.specs.Doing.{Does}
use Rattle.book.specs.Outcomes.{Outcome}

-- a shelf in a call that is lent this
abbrev pub lending : {F : Type 0} → Shelf F → Lent → State F
lending s l = record { shelf = s; lent = l }

-- what a list of steps passed, by how many of them were made: `first` is where it started, each step
-- led from one to the next with its outcome, and `last` is where it came to
pub record Course {X S : Type 0} (Step : S → X → Outcome → S → Type 0) (first : S) (xs : List X)
    (os : List Outcome) (last : S) (after : ℕ → S) : Type 0 where
  pub starts : after 0 ≡ first
  pub as_many : length os ≡ length xs
  pub steps : (i : ℕ) (x : X) (o : Outcome) → slice_get xs i ≡ Some x → slice_get os i ≡ Some o
      → Step (after i) x o (after (suc i))
  pub ends : after (length xs) ≡ last

-- the call makes or clears the place; a refused one makes and clears none
abbrev pub Changes : Call → Outcome → ℕ → Type 0
Changes c (Err r) p = ⊥
Changes c (Ok a) p = Among (results c) p

module _ {V : Type 0} (K : FiniteField V) {F : Type 0} (value : F → V) where
  -- calls made one after another on one shelf, and what came of each; directory and shelf memory pass
  -- from call to call, and each call may be lent anything
  pub data Use (first : Shelf F) : List Call → List Outcome → Shelf F → Type 0 where
    none : Use first [] [] first
    next : {cs : List Call} {os : List Outcome} {s : Shelf F} → Use first cs os s
        → (l : Lent) (c : Call) (o : Outcome) (t : State F) → Does K value (lending s l) c o t
        → Use first (cs ++ c ∷ []) (os ++ o ∷ []) t.shelf

  -- call i of a use, from 0: the shelf that the calls before it came to, what it was lent, and what it
  -- did; c and o stand in for a call that there is not
  pub record CallAt (first : Shelf F) (cs : List Call) (os : List Outcome) (i : ℕ)
      (c : Call) (o : Outcome) : Type 0 where
    pub before : Shelf F
    pub lent : Lent
    pub left : State F
    pub until : Use first (take i cs) (take i os) before
    pub does : Does K value (lending before lent)
        (slice_index_or cs i c) (slice_index_or os i o) left
    pub with_it : Use first (take (suc i) cs) (take (suc i) os) left.shelf

  -- a call with this outcome, lent anything, leads from one shelf to the other
  pub record Leads (s : Shelf F) (c : Call) (o : Outcome) (t : Shelf F) : Type 0 where
    pub lent : Lent
    pub left : State F
    pub does : Does K value (lending s lent) c o left
    pub shelf : left.shelf ≡ t

  -- a use that starts from open, with anything in shelf memory, and comes to s
  pub record Opening (cs : List Call) (os : List Outcome) (s : Shelf F) : Type 0 where
    pub first : Shelf F
    pub opened : Opened first
    pub uses : Use first cs os s

  -- s leads to t by calls of which none makes or clears the place p
  pub data Untouched (p : ℕ) (s : Shelf F) : Shelf F → Type 0 where
    still : Untouched p s s
    later : {t : Shelf F} → Untouched p s t → (l : Lent) (c : Call) (o : Outcome) (u : State F)
        → Does K value (lending t l) c o u → ¬ (Changes c o p) → Untouched p s u.shelf

-- an entry of the book, a page, is blank, or holds a letter count and the weight of every word
pub data Page (V : Type 0) : Type 0 where
  blank : Page V
  holds : (letters : ℕ) (weights : Word → V) → Page V

module _ {V : Type 0} (K : FiniteField V) where
  -- its letter count
  abbrev pub letters_on : Page V → ℕ
  letters_on blank = 0
  letters_on (holds k f) = k

  -- the weight that it holds for a word
  abbrev pub weights_on : Page V → Word → V
  weights_on blank w = K.zero
  weights_on (holds k f) w = f w

  -- the page of place p; blank for a place outside 1 to 8
  abbrev pub page : List (Page V) → ℕ → Page V
  page B p = at_place blank B p

  -- what an accepted call enters
  abbrev pub Enters : List (Page V) → Call → List (Page V) → Type 0
  Enters B (load text to) B' =
      (T : Table V) × Sized T × (text ≡ text_of K T)
      × (B' ≡ with_place B to (holds T.letters (weight K T)))
  Enters B (sum p q to) B' =
      B' ≡ with_place B to (holds (letters_on (page B p))
      (λ w. K.plus (weights_on (page B p) w) (weights_on (page B q) w)))
  Enters B (scale p c to) B' =
      B' ≡ with_place B to (holds (letters_on (page B p))
      (λ w. K.times (K.decode c) (weights_on (page B p) w)))
  Enters B (multiply p q to) B' =
      B' ≡ with_place B to (holds (letters_on (page B p))
      (λ w. K.times (weights_on (page B p) w) (weights_on (page B q) w)))
  Enters B (after p a to) B' =
      B' ≡ with_place B to (holds (letters_on (page B p)) (λ w. weights_on (page B p) (a ∷ w)))
  Enters B (turn p to) B' =
      B' ≡ with_place B to (holds (letters_on (page B p)) (λ w. weights_on (page B p) (reverse w)))
  Enters B (reduce p to) B' =
      B' ≡ with_place B to (holds (letters_on (page B p)) (weights_on (page B p)))
  Enters B (weigh p w) B' = B' ≡ B
  Enters B (compare p q) B' = B' ≡ B
  Enters B (write p) B' = B' ≡ B
  Enters B (clear p) B' = B' ≡ with_place B p blank

  -- the book is given a call and whether it was accepted; a refused one leaves it as it is
  abbrev pub Hears : List (Page V) → Call → Outcome → List (Page V) → Type 0
  Hears B c (Err r) B' = B' ≡ B
  Hears B c (Ok a) B' = Enters B c B'

  -- B becomes B' by these calls, one after another
  abbrev pub Fed : List (Page V) → List Call → List Outcome → List (Page V) → Type 0
  Fed B [] [] B' = B' ≡ B
  Fed B [] (o ∷ os) B' = ⊥
  Fed B (c ∷ cs) [] B' = ⊥
  Fed B (c ∷ cs) (o ∷ os) B' = (B₁ : List (Page V)) × Hears B c o B₁ × Fed B₁ cs os B'

  -- the book of a use: eight pages, blank at first
  abbrev pub Book : List Call → List Outcome → List (Page V) → Type 0
  Book cs os B = Fed (replicate 8 blank) cs os B
