-- The theorems as statements, over any field. What a theorem turns on, such as a bound, is an argument, which the contract that promises the theorem gives.
-- Assumes nothing.
use Rattle.std.specs.Prelude.{◌≡◌, ℕ, ◌+◌, ◌<◌, ◌≤◌, ◌≢◌, ◌⊎◌, ◌↔◌, Bool, IsTrue, [], ◌∷◌, ◌++◌, length}
use Rattle.field.specs.FiniteField.{FiniteField}
use Rattle.field.specs.Rows.{Agree}
use Rattle.series.specs.Words.{Word, Over}
use Rattle.series.specs.WordOrders.{WordOrder}
use Rattle.series.specs.Listing.{Count}
use Rattle.series.specs.Spans.{Span}
use Rattle.series.specs.Families.{Of, Dependent}
use Rattle.series.specs.Tables.{Table, weight, pair}
use Rattle.series.specs.Comparing.{Kept, Tried, Alike, LeastDifference}
use Rattle.series.specs.Reducing.{Reduced}

-- an order that a test decides, and that has the laws of a word order, is this one
abbrev pub OnlyOrder : (Word → Word → Type 0) → Type 0
OnlyOrder This = (before : Word → Word → Bool) → WordOrder (λ u v. IsTrue (before u v)) → (u v : Word) → IsTrue (before u v) ↔ This u v

module _ {V : Type 0} (K : FiniteField V) where
  -- a table made of two weighs every word as `op` makes it of their weights
  abbrev pub Combines : (Table V → Table V → Table V) → (V → V → V) → Type 0
  Combines make op = (S T : Table V) (w : Word) → weight K (make S T) w ≡ op (weight K S w) (weight K T w)

  -- a table made of one weighs every word as `op` makes it of its weight
  abbrev pub Maps : (Table V → Table V) → (V → V) → Type 0
  Maps make op = (T : Table V) (w : Word) → weight K (make T) w ≡ op (weight K T w)

  -- a table made of one weighs every word as that one weighs what `of` makes of the word
  abbrev pub Rereads : (Table V → Table V) → (Word → Word) → Type 0
  Rereads make of = (T : Table V) (w : Word) → weight K (make T) w ≡ weight K T (of w)

  -- wherever n is that many, one of n vectors with d entries is a combination of those before it
  abbrev pub DependWhere : (ℕ → ℕ → Type 0) → Type 0
  DependWhere Many = (d n : ℕ) (xs : ℕ → ℕ → V) → Many d n → Dependent K (λ i. i < d) n xs

  -- what is known, such as that it is decidable, of a vector with d entries being a combination of n others
  abbrev pub CombinationKnown : (Type 0 → Type 0) → Type 0
  CombinationKnown Known = (d n : ℕ) (xs : ℕ → ℕ → V) (y : ℕ → V) → Known (Span K (λ i. i < d) (Of n xs) y)

  -- the pair row of a word and one letter more is what `step` makes of the word's pair row
  abbrev pub PairSteps : (Table V → Table V → ℕ → (ℕ → V) → ℕ → V) → Type 0
  PairSteps step = (S T : Table V) (w : Word) (a : ℕ) → Agree (S.states + T.states) (pair K S T (w ++ a ∷ [])) (step S T a (pair K S T w))

  -- what `outcome` makes of a word's pair row is the word's weight under one of the two tables
  abbrev pub PairWeighs : (Table V → Table V → (ℕ → V) → V) → (Table V → Table V → Table V) → Type 0
  PairWeighs outcome one = (S T : Table V) (w : Word) → outcome S T (pair K S T w) ≡ weight K (one S T) w

  -- where the word that is made of two is kept, the first of them is
  abbrev pub KeptPart : (Word → Word → Word) → Type 0
  KeptPart join = (S T : Table V) (u v : Word) → Kept K S T (join u v) → Kept K S T u

  -- the pair rows of the kept words that Come with w
  abbrev pub KeptRows : (Word → Word → Type 0) → Table V → Table V → Word → (ℕ → V) → Type 0
  KeptRows Come S T w x = (u : Word) × Kept K S T u × Come u w × (x ≡ pair K S T u)

  -- every pair row is a combination of the pair rows of those kept words
  abbrev pub KeptSpan : (Word → Word → Type 0) → Type 0
  KeptSpan Come = (S T : Table V) (w : Word) → Over S.letters w → Span K (λ i. i < S.states + T.states) (KeptRows Come S T w) (pair K S T w)

  -- a kept word has fewer letters than the bound
  abbrev pub KeptShorter : (Table V → Table V → ℕ) → Type 0
  KeptShorter bound = (S T : Table V) (w : Word) → Kept K S T w → length w < bound S T

  -- the kept words have a number, one only, and it is at most the bound
  abbrev pub KeptNumber : (Table V → Table V → ℕ) → Type 0
  KeptNumber bound = (S T : Table V) → (n : ℕ) × Count (Kept K S T) n × ((m : ℕ) → Count (Kept K S T) m → m ≡ n) × (n ≤ bound S T)

  -- all words weigh alike exactly where these words do
  abbrev pub WordsDecide : (Table V → Table V → Word → Type 0) → Type 0
  WordsDecide These = (S T : Table V) → ((w : Word) → These S T w → weight K S w ≡ weight K T w) ↔ Alike K S T

  -- if some word differs, there is a least such word
  abbrev pub DifferenceHasLeast : Type 0
  DifferenceHasLeast = (S T : Table V) (w : Word) → Over S.letters w → weight K S w ≢ weight K T w → (v : Word) × LeastDifference K S T v

  -- the least word that differs is kept, and has fewer letters than the bound
  abbrev pub LeastDifferenceShorter : (Table V → Table V → ℕ) → Type 0
  LeastDifferenceShorter bound = (S T : Table V) (v : Word) → LeastDifference K S T v → Kept K S T v × (length v < bound S T)

  -- all words weigh alike, or there is a word that is what `First` says of it
  abbrev pub AlikeOr : (Table V → Table V → Word → Type 0) → Type 0
  AlikeOr First = (S T : Table V) → Alike K S T ⊎ ((v : Word) × First S T v)

  -- n kept words and k letters make this number of tried words, and no other
  abbrev pub TriedNumber : (ℕ → ℕ → ℕ) → Type 0
  TriedNumber count = (S T : Table V) (n : ℕ) → Count (Kept K S T) n → Count (Tried K S T) (count S.letters n) × ((m : ℕ) → Count (Tried K S T) m → m ≡ count S.letters n)

  -- tables that agree in this way weigh every word alike
  abbrev pub SameWeights : (Table V → Table V → Type 0) → Type 0
  SameWeights Agreeing = (S T : Table V) → Agreeing S T → Alike K S T

  -- the reduced form weighs each word as the function does what `of` makes of it
  abbrev pub ReducedWeights : (Word → Word) → Type 0
  ReducedWeights of = (k : ℕ) (f : Word → V) (R : Table V) → Reduced K k f R → (w : Word) → Over k w → weight K R w ≡ f (of w)

  -- the reduced form's number of states, and that of any table that weighs as the function does
  abbrev pub ReducedStates : (ℕ → ℕ → Type 0) → Type 0
  ReducedStates Compare = (k : ℕ) (f : Word → V) (R : Table V) → Reduced K k f R → (T : Table V) → ((w : Word) → Over k w → weight K T w ≡ f w) → Compare R.states T.states

  -- two reduced forms agree in this way exactly where the functions agree on every word
  abbrev pub ReducedCanonical : (Table V → Table V → Type 0) → Type 0
  ReducedCanonical Agreeing = (k : ℕ) (f g : Word → V) (R S : Table V) → Reduced K k f R → Reduced K k g S → Agreeing R S ↔ ((w : Word) → Over k w → f w ≡ g w)

  -- a function that a table weighs has a reduced form with so many letters
  abbrev pub ReducedExists : (Table V → ℕ) → Type 0
  ReducedExists letters = (T : Table V) (f : Word → V) → ((w : Word) → Over T.letters w → weight K T w ≡ f w) → (R : Table V) × Reduced K (letters T) f R
