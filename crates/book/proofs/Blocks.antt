-- Tables and the elements that they lie in. Assumes nothing.
use Rattle.std.proofs.Common.{◌≡◌, ℕ, zero, suc, ◌+◌, ◌-◌, ◌*◌, ◌/◌, ◌%◌, ◌<◌, ◌≤◌, List, sym, refl, ap, ◌∙◌, mod-lt, mul_assoc, div-lt_iff_lt-mul, add-mul, mul-zero, div-add-mod', arith}
use native.Mathlib.Decide.{dec_lt}
use Rattle.std.proofs.lemmas.Nat.{mul-add-lt}
use Rattle.field.specs.FiniteField.{FiniteField}
use Rattle.series.specs.Tables.{Table, SameTable}
use Rattle.field.specs.Rows.{at}
use Rattle.rows.specs.Layout.{table_size, matrix_offset, end_offset, table_at}
use Rattle.rows.proofs.Layouts.{matrix_within, MatrixRow, matrix_row}

pub same_sym : {V : Type 0} (S T : Table V) → SameTable S T → SameTable T S
same_sym S T e = record {
  states = sym e.states;
  letters = sym e.letters;
  start = λ i l. sym (e.start i (omega (arith, e.states)));
  step = λ a low high i l j h. sym (e.step a low (omega (arith, e.letters)) i (omega (arith, e.states)) j (omega (arith, e.states)));
  end = λ i l. sym (e.end i (omega (arith, e.states)));
}

pub same_trans : {V : Type 0} (R S T : Table V) → SameTable R S → SameTable S T → SameTable R T
same_trans R S T d e = record {
  states = d.states ∙ e.states;
  letters = d.letters ∙ e.letters;
  start = λ i l. d.start i l ∙ e.start i (omega (arith, d.states));
  step = λ a low high i l j h. d.step a low high i l j h ∙ e.step a low (omega (arith, d.letters)) i (omega (arith, d.states)) j (omega (arith, d.states));
  end = λ i l. d.end i l ∙ e.end i (omega (arith, d.states));
}

some : (m n r : ℕ) → r < m * n → 0 < n
some m zero r l = absurd (omega (arith, mul-zero m))
some m (suc n) r l = omega arith

module _ {V : Type 0} (K : FiniteField V) {F : Type 0} (value : F → V) (xs ys : List F) (b n k : ℕ) where
  -- where the elements have one value, the tables agree
  pub same_by_values : ((i : ℕ) → b ≤ i → i < b + table_size n k → at K value xs i ≡ at K value ys i) → SameTable (table_at K value xs b n k) (table_at K value ys b n k)
  same_by_values h = record {
    states = refl;
    letters = refl;
    start = λ i l. h (b + i) (omega arith) (omega arith);
    step = λ a low high i l j g. h (matrix_offset b n a + (i * n + j)) (omega arith) (omega (arith, matrix_within a k (n * n) low high, mul-add-lt i n j n l g));
    end = λ i l. h (end_offset b n k + i) (omega arith) (omega arith);
  }

  -- where the tables agree, the elements have one value
  pub values_by_same : SameTable (table_at K value xs b n k) (table_at K value ys b n k) → (i : ℕ) → b ≤ i → i < b + table_size n k → at K value xs i ≡ at K value ys i
  values_by_same e i low high = go (dec_lt i (b + n)) (dec_lt i (end_offset b n k))
    where
      to : (j : ℕ) → j ≡ i → at K value xs j ≡ at K value ys j → at K value xs i ≡ at K value ys i
      to j d p = ap (at K value xs) (sym d) ∙ p ∙ ap (at K value ys) d

      matrix : (r : ℕ) → r < k * n * n → b + n + r ≡ i → at K value xs i ≡ at K value ys i
      matrix r l d =
          let m : MatrixRow k n (r / n) = matrix_row k n (r / n) ((div-lt_iff_lt-mul {k = n} {x = r} {y = k * n} (some (k * n) n r l)).1 l) in
          let whole : r / n * n + r % n ≡ r = div-add-mod' r n in
          let row : r / n / n * n + r / n % n ≡ r / n = div-add-mod' (r / n) n in
          let wide : (r / n / n * n + r / n % n) * n ≡ r / n / n * (n * n) + r / n % n * n = add-mul (r / n / n * n) (r / n % n) n ∙ ap (λ z. z + r / n % n * n) (mul_assoc (r / n / n) n n) in
          let same : (r / n / n * n + r / n % n) * n ≡ r / n * n = ap (λ z. z * n) row in
          let first : r / n / n + 1 - 1 ≡ r / n / n = omega arith in
          let spot : matrix_offset b n (r / n / n + 1) ≡ b + n + r / n / n * (n * n) = ap (λ z. b + n + z * (n * n)) first in
          to (matrix_offset b n (r / n / n + 1) + (r / n % n * n + r % n)) (omega arith) (e.step (r / n / n + 1) (omega arith) m.letter (r / n % n) m.state (r % n) (mod-lt r (some (k * n) n r l)))

      go : Dec (i < b + n) → Dec (i < end_offset b n k) → at K value xs i ≡ at K value ys i
      go (yes l) q = to (b + (i - b)) (omega arith) (e.start (i - b) (omega arith))
      go (no u) (yes l) = matrix (i - (b + n)) (omega (arith, mul_assoc k n n)) (omega arith)
      go (no u) (no v) = to (end_offset b n k + (i - end_offset b n k)) (omega arith) (e.end (i - end_offset b n k) (omega arith))
