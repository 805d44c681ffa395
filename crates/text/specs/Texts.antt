-- The text of a table, and the items that a reader of it expects. Assumes nothing.
use Rattle.std.specs.Prelude.{ℕ, ◌+◌, ◌-◌, ◌*◌, ◌≤◌, List, [], ◌∷◌, ◌++◌, map, replicate}
use Rattle.std.specs.List.{range_with_len, flat_map}
use Rattle.field.specs.FiniteField.{FiniteField}
use Rattle.series.specs.Tables.{Table}
use Rattle.columns.specs.Lines.{letter, line}
use Rattle.reader.specs.Items.{Item, ranged, line_items}
use Rattle.columns.specs.declared.line.Kind.TheVariants as kind

-- the limits of a table's size
pub record Limits (n k : ℕ) : Type 0 where
  pub states : n ≤ 16
  pub some_letter : 1 ≤ k
  pub letters : k ≤ 6

-- how many bytes a text has
abbrev pub text_size : ℕ → ℕ → ℕ
text_size n k = 41 + 22 * n + k * n * (24 + 11 * n)

module _ {V : Type 0} (K : FiniteField V) where
  -- the codes of a row's first n entries
  abbrev pub row_codes : ℕ → (ℕ → V) → List ℕ
  row_codes n x = map (λ i. K.code (x i)) (range_with_len 0 n)

  -- the line of row i, from 0, of the letter a's matrix
  abbrev pub matrix_line : Table V → ℕ → ℕ → List ℕ
  matrix_line T a i = line (letter kind.Matrix) (a ∷ (i + 1) ∷ row_codes T.states (T.step a i))

  -- these lines for each letter and each row
  abbrev pub matrix_lines : Table V → List ℕ
  matrix_lines T = flat_map (λ a. flat_map (matrix_line T a) (range_with_len 0 T.states)) (range_with_len 1 T.letters)

  -- the lines after the first: the start row, the matrices, the end column, and a last line
  unfoldable pub body_of : Table V → List ℕ
  body_of T =
      line (letter kind.Start) (row_codes T.states T.start)
      ++ (matrix_lines T
      ++ (line (letter kind.End) (row_codes T.states T.end)
      ++ line (letter kind.Close) []))

  -- the text of a table: a line of its sizes and q, and the others
  unfoldable pub text_of : Table V → List ℕ
  text_of T = line (letter kind.Table) (T.states ∷ T.letters ∷ K.q ∷ []) ++ body_of T

  -- n codes
  abbrev pub code_items : ℕ → List Item
  code_items n = replicate n (ranged 0 (K.q - 1))

  -- what is due in the first line
  abbrev pub table_items : List Item
  table_items = line_items (letter kind.Table) (ranged 0 16 ∷ ranged 1 6 ∷ ranged K.q K.q ∷ [])

  -- what is due in the line of row i, from 0, of the letter a's matrix
  abbrev pub matrix_items : ℕ → ℕ → ℕ → List Item
  matrix_items n a i = line_items (letter kind.Matrix) (ranged a a ∷ ranged (i + 1) (i + 1) ∷ code_items n)

  -- what is due in the lines after the first
  abbrev pub body_items : ℕ → ℕ → List Item
  body_items n k =
      line_items (letter kind.Start) (code_items n)
      ++ (flat_map (λ a. flat_map (matrix_items n a) (range_with_len 0 n)) (range_with_len 1 k)
      ++ (line_items (letter kind.End) (code_items n)
      ++ line_items (letter kind.Close) []))
