-- The values that slices of elements stand for: rows and matrices. Assumes nothing.
use Rattle.std.specs.Prelude.{◌≡◌, ℕ, ◌+◌, ◌*◌, ◌<◌, List, map, length, slice_index, slice_index_or}
use Rattle.field.specs.FiniteField.{FiniteField}
use Rattle.field.specs.Sums.{dot, move, less_multiple, less_rows}

module _ {F V : Type 0} (K : FiniteField V) (value : F → V) where
  -- the value of the element at i; zero past the end
  abbrev pub at : List F → ℕ → V
  at xs i = slice_index_or (map value xs) i K.zero

  -- the row that begins at a
  abbrev pub row_at : List F → ℕ → ℕ → V
  row_at xs a i = at xs (a + i)

  -- the matrix that begins at a, by rows of n entries
  abbrev pub square_at : List F → ℕ → ℕ → ℕ → ℕ → V
  square_at xs a n i j = at xs (a + (i * n + j))

  -- the row xs times the column of ys whose elements lie `step` apart from `column` on
  abbrev pub column_dot : List F → List F → ℕ → ℕ → V
  column_dot xs ys column step = dot K (length xs) (at xs) (λ i. at ys (column + i * step))

  -- the row xs times the matrix ms of as many rows and columns
  abbrev pub matrix_product : List F → List F → ℕ → V
  matrix_product xs ms = move K (length xs) (square_at ms 0 (length xs)) (at xs)

  -- the row xs less the factor times the row ys
  abbrev pub row_less_multiple : List F → V → List F → ℕ → V
  row_less_multiple xs factor ys = less_multiple K (at xs) factor (at ys)

  -- the row xs less the first rows of ms, one for each pivot
  abbrev pub row_less_rows : List F → List F → List ℕ → ℕ → V
  row_less_rows xs ms pivots =
      less_rows K (length pivots) (square_at ms 0 (length xs)) (λ b. slice_index pivots b) (at xs)

-- every number of the list is below n
abbrev pub AllBelow : ℕ → List ℕ → Type 0
AllBelow n xs = (b : ℕ) → b < length xs → slice_index xs b < n

-- the first n entries of two rows are the same
abbrev pub Agree : {V : Type 0} → ℕ → (ℕ → V) → (ℕ → V) → Type 0
Agree n x y = (i : ℕ) → i < n → x i ≡ y i

module _ {F V : Type 0} (K : FiniteField V) (value : F → V) where
  -- xs has n elements, with the values of the row x
  pub record RowOf (n : ℕ) (x : ℕ → V) (xs : List F) : Type 0 where
    pub len : length xs ≡ n
    pub same : Agree n (at K value xs) x

  -- `to` is the row xs times the matrix ms
  abbrev pub ProductWritten : List F → List F → List F → Type 0
  ProductWritten xs ms to = RowOf (length xs) (matrix_product K value xs ms) to

  -- `to` is the row xs less the factor times the row ys
  abbrev pub MultipleTaken : List F → F → List F → List F → Type 0
  MultipleTaken xs c ys to = RowOf (length xs) (row_less_multiple K value xs (value c) ys) to

  -- `to` is the row xs less the first rows of ms, one for each pivot
  abbrev pub RowsTaken : List F → List F → List ℕ → List F → Type 0
  RowsTaken xs ms pivots to = RowOf (length xs) (row_less_rows K value xs ms pivots) to
