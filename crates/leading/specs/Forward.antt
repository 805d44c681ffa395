-- How far the walk through the words has come that finds the leading words. Assumes nothing.
use Rattle.std.specs.Prelude.{◌≡◌, ℕ, ◌<◌, ◌≤◌, List, [], ◌∷◌, ◌++◌, length, slice_index}
use Rattle.field.specs.FiniteField.{FiniteField}
use Rattle.series.specs.Words.{Word}
use Rattle.series.specs.Families.{mix}
use Rattle.series.specs.Listing.{Listed}
use Rattle.series.specs.WalkProgress.{Scanned}
use Rattle.series.specs.EliminationProgress.{Basis}
use Rattle.field.specs.Rows.{Agree, row_at, square_at}
use Rattle.series.specs.Tables.{Table, row}
use Rattle.series.specs.Projecting.{seen, FreshSeen}
use Rattle.rows.specs.Seen.{table_of}
use Rattle.spanning.specs.Places.{vector_at, coefficients_at}
use Rattle.spanning.specs.Views.{columns_of, Spanned}
use Rattle.leading.specs.Tracking.{Tracked}
use Rattle.leading.specs.declared.view.View.{View}

module _ {F V : Type 0} (K : FiniteField V) (value : F → V) (view : View F) where
  -- the table that is seen
  abbrev pub viewed : Table V
  viewed = table_of K value view.table

  -- the products of a word's row with the columns of the view
  abbrev pub sight : Word → ℕ → V
  sight = seen K viewed viewed.letters view.count (columns_of K value view.columns.now)

  -- words that are leading as far as the view shows; it shows all, if its columns span
  abbrev pub Leads : Word → Type 0
  Leads = FreshSeen K viewed viewed.letters view.count (columns_of K value view.columns.now)

  -- the columns span, rs holds the rows of the first n words, and ts what the view shows of them in echelon form, with coefficients; there is room for 17 of each, and in ks for the coefficients
  pub record WordsHeld (n : ℕ) (words : ℕ → Word) (pivots : List ℕ) (rs ts ks : List F) : Type 0 where
    pub spanned : Spanned K value viewed view.count view.columns.now
    pub room : (272 ≤ length rs) × ((544 ≤ length ts) × (2048 ≤ length ks))
    pub rows : (i : ℕ) → i < n → Agree viewed.states (row_at K value rs (vector_at i)) (row K viewed (words i))
    pub basis : Basis K (λ i. i < view.count) sight n words (square_at K value ts 0 32) (λ b. slice_index pivots b)
    pub ones : (b : ℕ) → b < n → square_at K value ts 0 32 b (slice_index pivots b) ≡ K.one
    pub tracked : Tracked K view.count n (λ j. sight (words j)) (square_at K value ts 0 32)

  -- ks holds the coefficients of the word i followed by the letter a, and zeros behind them
  pub record Stepped (n : ℕ) (words : ℕ → Word) (ks : List F) (i a : ℕ) : Type 0 where
    pub made : (q : ℕ) → q < view.count → sight (words i ++ a ∷ []) q ≡ mix K n (row_at K value ks (coefficients_at i a)) (λ j. sight (words j)) q
    pub bare : (j : ℕ) → n ≤ j → j < 16 → row_at K value ks (coefficients_at i a) j ≡ K.zero

  -- the word i followed by the letter a is to be tried next
  pub record TryingBy (i a n : ℕ) (pivots : List ℕ) (rs ts ks : List F) : Type 0 where
    pub words : ℕ → Word
    pub held : WordsHeld n words pivots rs ts ks
    pub few : n ≤ view.count
    pub inside : i < n
    pub scanned : Scanned Leads n words (words i ++ a ∷ [])
    pub past : (m b : ℕ) → m < i → 1 ≤ b → b ≤ viewed.letters → Stepped n words ks m b
    pub here : (b : ℕ) → 1 ≤ b → b < a → Stepped n words ks i b

  -- each of the first i words was tried with every letter
  pub record WalkedBy (i n : ℕ) (pivots : List ℕ) (rs ts ks : List F) : Type 0 where
    pub words : ℕ → Word
    pub held : WordsHeld n words pivots rs ts ks
    pub few : n ≤ view.count
    pub upto : i ≤ n
    pub next : i < n → Scanned Leads n words (words i ++ 1 ∷ [])
    pub done : i ≡ n → Listed Leads n words
    pub past : (m b : ℕ) → m < i → 1 ≤ b → b ≤ viewed.letters → Stepped n words ks m b

  -- the same, by the pivots of what was found
  abbrev pub Trying : ℕ → ℕ → List ℕ → List F → List F → List F → Type 0
  Trying i a pivots rs ts ks = TryingBy i a (length pivots) pivots rs ts ks

  abbrev pub Walked : ℕ → List ℕ → List F → List F → List F → Type 0
  Walked i pivots rs ts ks = WalkedBy i (length pivots) pivots rs ts ks

  -- every leading word is found, n of them: rs holds their rows, and ks their coefficients
  abbrev pub Finished : ℕ → List F → List F → Type 0
  Finished n rs ks = (pivots : List ℕ) × (ts : List F) × WalkedBy n n pivots rs ts ks
