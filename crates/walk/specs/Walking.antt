-- How far a walk through the tried words of two tables has come. Assumes nothing.
use Rattle.std.specs.Prelude.{◌≡◌, ℕ, ◌+◌, ◌*◌, ◌<◌, ◌≤◌, List, [], ◌∷◌, ◌++◌, length, slice_index, slice_index_or}
use Rattle.field.specs.FiniteField.{FiniteField}
use Rattle.series.specs.Comparing.{Kept}
use Rattle.series.specs.Listing.{Listed}
use Rattle.series.specs.EliminationProgress.{Basis}
use Rattle.field.specs.Rows.{Agree, row_at, square_at}
use Rattle.series.specs.Tables.{Table, weight, pair}
use Rattle.series.specs.WalkProgress.{Scanned}
use Rattle.series.specs.Words.{Word, ◌≺◌}
use Rattle.walk.specs.Comparing.{FirstDifference}
use Rattle.walk.specs.Pairs.{width, left_table, right_table}
use Rattle.walk.specs.declared.pairs.Pair.{Pair}
use Rattle.walk.specs.declared.links.Link.{Link}
use Rattle.walk.specs.declared.links.Walk.{Walk}
use Rattle.walk.specs.declared.walk.Found.{Found}
use Rattle.walk.specs.declared.walk.Difference.{Difference}
use Rattle.walk.specs.declared.walk.Difference.TheVariants.{Empty, Longer}
use Rattle.walk.specs.declared.pairs.Weights.{Weights}

-- how many words are kept
abbrev pub kept : Walk → ℕ
kept w = length w.pivots.items

-- the link of the word i
abbrev pub link_at : List Link → ℕ → Link
link_at links i = slice_index_or links i (record { parent = 0; letter = 0 })

-- each of the first `count` words but the first, which is empty, is an earlier one with one letter more
pub record Linked (count : ℕ) (words : ℕ → Word) (links : List Link) : Type 0 where
  pub root : 0 < count → words 0 ≡ []
  pub earlier : (i : ℕ) → 0 < i → i < count → (link_at links i).parent < i
  pub follows : (i : ℕ) → 0 < i → i < count → words i ≡ words (link_at links i).parent ++ (link_at links i).letter ∷ []

-- w' is the walk w with one kept word more
pub record Noted (w w' : Walk) (pivot : ℕ) (link : Link) : Type 0 where
  pub pivots : w'.pivots.items ≡ w.pivots.items ++ pivot ∷ []
  pub links : w'.links.items ≡ w.links.items ++ link ∷ []

module _ {F V : Type 0} (K : FiniteField V) (v : F → V) (S T : Table V) where
  -- what work memory holds of the first `count` words: in rs their pair rows, and in es rows in echelon form that span the same
  pub record Held (count : ℕ) (words : ℕ → Word) (rs es : List F) (pivots : List ℕ) : Type 0 where
    pub rows : (i : ℕ) → i < count → Agree (S.states + T.states) (row_at K v rs (i * (S.states + T.states))) (pair K S T (words i))
    pub basis : Basis K (λ i. i < S.states + T.states) (pair K S T) count words (square_at K v es 0 (S.states + T.states)) (λ b. slice_index pivots b)
    pub ones : (b : ℕ) → b < count → square_at K v es 0 (S.states + T.states) b (slice_index pivots b) ≡ K.one
    pub alike : (i : ℕ) → i < count → weight K S (words i) ≡ weight K T (words i)

  -- the kept word i with the letter a is to be tried next, also where a is one past the last letter
  pub record Ready (i a : ℕ) (w : Walk) (rs es : List F) : Type 0 where
    pub words : ℕ → Word
    pub held : Held (kept w) words rs es w.pivots.items
    pub linked : Linked (kept w) words w.links.items
    pub few : kept w ≤ S.states + T.states
    pub inside : i < kept w
    pub scanned : Scanned (Kept K S T) (kept w) words (words i ++ a ∷ [])

  -- each kept word before the word i was tried with every letter
  pub record Passed (i : ℕ) (w : Walk) (rs es : List F) : Type 0 where
    pub words : ℕ → Word
    pub held : Held (kept w) words rs es w.pivots.items
    pub linked : Linked (kept w) words w.links.items
    pub few : kept w ≤ S.states + T.states
    pub upto : i ≤ kept w
    pub ascends : (i j : ℕ) → i < j → j < kept w → words i ≺ words j
    pub good : (i : ℕ) → i < kept w → Kept K S T (words i)
    pub next : i < kept w → Scanned (Kept K S T) (kept w) words (words i ++ 1 ∷ [])
    pub done : i ≡ kept w → (u : Word) → Kept K S T u → (j : ℕ) × (j < kept w) × (u ≡ words j)

-- the kept word and letter of the link are the least difference
pub record FoundDifference {V : Type 0} (K : FiniteField V) (S T : Table V) (w : Walk) (f : Found) : Type 0 where
  pub words : ℕ → Word
  pub linked : Linked (kept w) words w.links.items
  pub few : kept w ≤ S.states + T.states
  pub inside : f.last.parent < kept w
  pub letter : f.last.letter ≤ S.letters
  pub difference : FirstDifference K S T (words f.last.parent ++ f.last.letter ∷ []) (1 + f.last.parent * S.letters + f.last.letter) f.weights.left f.weights.right

-- how far a walk over a pair of tables has come, and how it ends
module _ {F V : Type 0} (K : FiniteField V) (v : F → V) (both : Pair F) where
  -- the kept word i with the letter a is to be tried next
  abbrev pub AtLetter : ℕ → ℕ → Walk → List F → List F → Type 0
  AtLetter i a w rs es = Ready K v (left_table K v both) (right_table K v both) i a w rs es

  -- the kept word i is to be tried next, with each letter
  abbrev pub AtWord : ℕ → Walk → List F → List F → Type 0
  AtWord i w rs es = Passed K v (left_table K v both) (right_table K v both) i w rs es

  -- the empty word is the least difference, with these codes
  abbrev pub EmptyDiffers : Weights → Type 0
  EmptyDiffers w = FirstDifference K (left_table K v both) (right_table K v both) [] 1 w.left w.right

  -- the word of the link is the least difference
  abbrev pub LinkDiffers : Walk → Found → Type 0
  LinkDiffers w f = FoundDifference K (left_table K v both) (right_table K v both) w f

  -- the kept words in shortlex order, with their links, and what work memory holds of them: each weighs alike under both tables
  pub record KeptWords (w : Walk) (rs es : List F) : Type 0 where
    pub words : ℕ → Word
    pub listed : Listed (Kept K (left_table K v both) (right_table K v both)) (kept w) words
    pub linked : Linked (kept w) words w.links.items
    pub held : Held K v (left_table K v both) (right_table K v both) (kept w) words rs es w.pivots.items
    -- this follows
    pub few : kept w ≤ width both

  -- this difference is the least one
  abbrev pub DiffersFirst : Walk → Difference → Type 0
  DiffersFirst w (Empty weights) = EmptyDiffers weights
  DiffersFirst w (Longer f) = LinkDiffers w f
