-- Sequence tables: weighted automata over a field, and the weight of a word. Assumes nothing.
use Rattle.std.specs.Prelude.{◌≡◌, ℕ, zero, suc, ◌+◌, ◌<◌, ◌≤◌, [], ◌∷◌}
use Rattle.field.specs.FiniteField.{FiniteField}
use Rattle.field.specs.Sums.{dot, move}
use Rattle.series.specs.Words.{Word}
use Rattle.field.specs.Rows.{Agree}

-- a start row, a square matrix for each of the letters 1 to `letters`, and an end column; entries are numbered from 0, and only those below `states` count
pub record Table (V : Type 0) : Type 0 where
  pub states : ℕ
  pub letters : ℕ
  pub start : ℕ → V
  -- by letter, row and column
  pub step : ℕ → ℕ → ℕ → V
  pub end : ℕ → V

module _ {V : Type 0} (K : FiniteField V) where
  -- a row times each of many columns
  abbrev pub against : {Y : Type 0} → ℕ → (Y → ℕ → V) → (ℕ → V) → Y → V
  against n cs x j = dot K n x (cs j)

  -- the row x times the matrices of a word's letters, from left to right
  abbrev pub after : Table V → (ℕ → V) → Word → ℕ → V
  after T x [] = x
  after T x (a ∷ w) = after T (move K T.states (T.step a) x) w

  -- the start row times the matrices of a word's letters
  abbrev pub row : Table V → Word → ℕ → V
  row T w = after T T.start w

  -- the matrices of a word's letters times the end column
  abbrev pub column : Table V → Word → ℕ → V
  column T [] = T.end
  column T (a ∷ w) = λ i. dot K T.states (T.step a i) (column T w)

  -- start row times matrices from left to right times end column
  abbrev pub weight : Table V → Word → V
  weight T w = dot K T.states (row T w) T.end

-- two tables agree number for number
pub record SameTable {V : Type 0} (S T : Table V) : Type 0 where
  pub states : S.states ≡ T.states
  pub letters : S.letters ≡ T.letters
  pub start : Agree S.states S.start T.start
  pub step : (a : ℕ) → 1 ≤ a → a ≤ S.letters → (i : ℕ) → i < S.states → Agree S.states (S.step a i) (T.step a i)
  pub end : Agree S.states S.end T.end

-- x at the places below n, and behind them y
abbrev pub beside : {V : Type 0} → ℕ → (ℕ → V) → (ℕ → V) → ℕ → V
beside zero x y i = y i
beside (suc n) x y zero = x zero
beside (suc n) x y (suc i) = beside n (λ j. x (suc j)) y i

-- two tables side by side
module _ {V : Type 0} (K : FiniteField V) (S T : Table V) where
  -- the pair row of a word: the rows of both tables after it, side by side
  abbrev pub pair : Word → ℕ → V
  pair w = beside S.states (row K S w) (row K T w)

  -- the second table's part of a row as long as a pair row
  abbrev pub right_part : (ℕ → V) → ℕ → V
  right_part x i = x (S.states + i)

  -- such a row times a letter's two matrices, each part times that of its table
  abbrev pub pair_step : ℕ → (ℕ → V) → ℕ → V
  pair_step a x = beside S.states (move K S.states (S.step a) x) (move K T.states (T.step a) (right_part x))

  -- its outcomes: each part times the end column of its table
  abbrev pub left_outcome : (ℕ → V) → V
  left_outcome x = dot K S.states x S.end

  abbrev pub right_outcome : (ℕ → V) → V
  right_outcome x = dot K T.states (right_part x) T.end
