-- Rows of codes in memory, as the reader and the writer go through them: j counts the rows of all matrices from 0. Assumes nothing.
use Rattle.std.specs.Prelude.{ℕ, ◌+◌, ◌*◌, ◌/◌, ◌%◌, List, ◌∷◌, map, take, drop}
use Rattle.std.specs.List.{range_with_len, flat_map}
use Rattle.field.specs.FiniteField.{FiniteField}
use Rattle.columns.specs.Lines.{letter, line}
use Rattle.reader.specs.Items.{Item}
use Rattle.text.specs.Texts.{matrix_items}
use Rattle.columns.specs.declared.line.Kind.TheVariants as kind

-- the codes of elements
abbrev pub codes_of : {F V : Type 0} → FiniteField V → (F → V) → List F → List ℕ
codes_of K value xs = map (λ x. K.code (value x)) xs

-- row j of a list of rows of n codes
abbrev pub row : ℕ → List ℕ → ℕ → List ℕ
row n rows j = take n (drop (j * n) rows)

-- its line: row j % n of the letter j / n, both from 0
abbrev pub row_line : ℕ → List ℕ → ℕ → List ℕ
row_line n rows j = line (letter kind.Matrix) ((j / n + 1) ∷ (j % n + 1) ∷ row n rows j)

-- the first m of these lines
abbrev pub row_lines : ℕ → List ℕ → ℕ → List ℕ
row_lines n rows m = flat_map (row_line n rows) (range_with_len 0 m)

-- what is due in them
abbrev pub row_items : {V : Type 0} → FiniteField V → ℕ → ℕ → List Item
row_items K n m = flat_map (λ j. matrix_items K n (j / n + 1) (j % n)) (range_with_len 0 m)
