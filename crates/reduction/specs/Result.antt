-- The table that leading words and their coefficients are, as it is written out. Assumes nothing.
use Rattle.std.specs.Prelude.{ℕ, List}
use Rattle.field.specs.FiniteField.{FiniteField}
use Rattle.field.specs.Sums.{dot}
use Rattle.series.specs.Tables.{Table}
use Rattle.field.specs.Rows.{row_at}
use Rattle.spanning.specs.Places.{vector_at, coefficients_at}
use Rattle.leading.specs.Units.{unit}

-- n states, one for each leading word of T: the first is the start, their coefficients, which ks holds, are the matrices' rows, and their weights, by their rows, which rs holds, the end column
abbrev pub form_of : {F V : Type 0} → FiniteField V → (F → V) → Table V → ℕ → List F → List F → Table V
form_of K value T n rs ks = record {
  states = n;
  letters = T.letters;
  start = unit K 0;
  step = λ a i. row_at K value ks (coefficients_at i a);
  end = λ i. dot K T.states (row_at K value rs (vector_at i)) T.end;
}
