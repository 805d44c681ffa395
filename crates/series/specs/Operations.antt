-- The tables that the operations on tables define. Assumes nothing.
use Rattle.std.specs.Prelude.{ℕ, ◌+◌, ◌*◌, ◌/◌, ◌%◌}
use Rattle.field.specs.FiniteField.{FiniteField}
use Rattle.field.specs.Sums.{move}
use Rattle.series.specs.Tables.{Table, beside}

module _ {V : Type 0} (K : FiniteField V) where
  -- sum: the first table's states, then the second's; matrices in two diagonal blocks, zeros elsewhere
  abbrev pub sum_table : Table V → Table V → Table V
  sum_table S T = record {
    states = S.states + T.states;
    letters = S.letters;
    start = beside S.states S.start T.start;
    step = λ a. beside S.states (λ i. beside S.states (S.step a i) (λ j. K.zero)) (λ i. beside S.states (λ j. K.zero) (T.step a i));
    end = beside S.states S.end T.end;
  }

  -- scale: the end column times c
  abbrev pub scaled_table : V → Table V → Table V
  scaled_table c T = record { states = T.states; letters = T.letters; start = T.start; step = T.step; end = λ i. K.times c (T.end i) }

  -- the products of the entries of x and y, that of i and j at i * n + j
  abbrev pub crossed : ℕ → (ℕ → V) → (ℕ → V) → ℕ → V
  crossed n x y p = K.times (x (p / n)) (y (p % n))

  -- multiply: the state (i, j) has the number i * n + j, where the second table has n states; each number is the product of the two tables' numbers
  abbrev pub product_table : Table V → Table V → Table V
  product_table S T = record {
    states = S.states * T.states;
    letters = S.letters;
    start = crossed T.states S.start T.start;
    step = λ a p. crossed T.states (S.step a (p / T.states)) (T.step a (p % T.states));
    end = crossed T.states S.end T.end;
  }

  -- after a letter: the start row times its matrix
  abbrev pub after_table : ℕ → Table V → Table V
  after_table a T = record { states = T.states; letters = T.letters; start = move K T.states (T.step a) T.start; step = T.step; end = T.end }

  -- turn: start and end exchanged, matrices mirrored in the diagonal
  abbrev pub turned_table : Table V → Table V
  turned_table T = record { states = T.states; letters = T.letters; start = T.end; step = λ a i j. T.step a j i; end = T.start }
