-- The tables of the worked figures. Assumes nothing.
use Rattle.std.specs.Prelude.{ℕ, List, [], ◌∷◌, ◌++◌, length, replicate, codes, slice_index, slice_index_or}
use Prim.Native.String.{String}
use Rattle.field.specs.Below.{Below}
use Rattle.residue.specs.Delivered.{fermat}
use Rattle.series.specs.Words.{Word}
use Rattle.series.specs.Tables.{Table}

-- the table of one letter whose start row, matrix by rows, and end column have these codes; it has as many states as its start row has numbers
abbrev pub of_codes : List ℕ → List (List ℕ) → List ℕ → Table (Below 65537)
of_codes start rows end = record {
  states = length start;
  letters = 1;
  start = λ i. fermat.decode (slice_index start i);
  step = λ a i j. fermat.decode (slice_index (slice_index_or rows i []) j);
  end = λ i. fermat.decode (slice_index end i);
}

-- the Fibonacci table with this end column
abbrev pub fibonacci_with : List ℕ → Table (Below 65537)
fibonacci_with end = of_codes (1 ∷ 0 ∷ []) ((0 ∷ 1 ∷ []) ∷ (1 ∷ 1 ∷ []) ∷ []) end

-- the Fibonacci table
abbrev pub fibonacci : Table (Below 65537)
fibonacci = fibonacci_with (0 ∷ 1 ∷ [])

-- the table of one state that starts with one, multiplies by m at each letter, and ends with one
abbrev pub multiplier : ℕ → Table (Below 65537)
multiplier m = of_codes (1 ∷ []) ((m ∷ []) ∷ []) (1 ∷ [])

-- the word of n letters; there is one letter, 1
abbrev pub word_of : ℕ → Word
word_of n = replicate n 1

-- the bytes of lines, each ended by byte 10
abbrev pub bytes_of_lines : List String → List ℕ
bytes_of_lines [] = []
bytes_of_lines (l ∷ ls) = codes l ++ 10 ∷ bytes_of_lines ls
