-- How a table of n states and k letters lies in memory: start row, matrices by letter and then by row, end column. Assumes nothing.
use Rattle.std.specs.Prelude.{ℕ, ◌+◌, ◌-◌, ◌*◌, List}
use Rattle.field.specs.FiniteField.{FiniteField}
use Rattle.series.specs.Tables.{Table}
use Rattle.field.specs.Rows.{row_at, square_at}

-- how many elements it takes
abbrev pub table_size : ℕ → ℕ → ℕ
table_size n k = n + k * (n * n) + n

-- where the matrix of the letter a begins, in a table that begins at base
abbrev pub matrix_offset : ℕ → ℕ → ℕ → ℕ
matrix_offset base n a = base + n + (a - 1) * (n * n)

-- where the end column begins
abbrev pub end_offset : ℕ → ℕ → ℕ → ℕ
end_offset base n k = base + n + k * (n * n)

-- the table that lies at base
abbrev pub table_at : {F V : Type 0} → FiniteField V → (F → V) → List F → ℕ → ℕ → ℕ → Table V
table_at K value xs base n k = record {
  states = n;
  letters = k;
  start = row_at K value xs base;
  step = λ a. square_at K value xs (matrix_offset base n a) n;
  end = row_at K value xs (end_offset base n k);
}
