-- Where the parts of a table end. Assumes nothing.
use Rattle.std.proofs.Common.{◌≡◌, ℕ, zero, suc, ◌+◌, ◌-◌, ◌*◌, ◌/◌, ◌%◌, ◌<◌, ◌≤◌, ◌∙◌, mod-lt, mod-eq_of_lt, div-lt_iff_lt-mul, mul-zero, arith}
use native.Mathlib.Nat.{mul-add-mod_self_right, div-eq_of_lt-le}
use Rattle.std.proofs.lemmas.Nat.{mul-le}
use Rattle.rows.specs.Layout.{table_size, matrix_offset}

-- the matrix of the letter a ends within the k matrices of s elements each
pub matrix_within : (a k s : ℕ) → 1 ≤ a → a ≤ k → (a - 1) * s + s ≤ k * s
matrix_within a k s h l = omega (arith, mul-le ((a - 1) + 1) s k s (omega arith) (omega arith))

-- row i of it ends within the table
pub row_within : (base n k a i : ℕ) → 1 ≤ a → a ≤ k → i < n → matrix_offset base n a + i * n + n ≤ base + table_size n k
row_within base n k a i low high h = omega (arith, matrix_within a k (n * n) low high, mul-le (i + 1) n n n (omega arith) (omega arith))

-- row i of the matrix of the letter a is row (a - 1) * n + i of all matrices
pub letter_of : (a n i : ℕ) → i < n → ((a - 1) * n + i) / n ≡ a - 1
letter_of a n i h = div-eq_of_lt-le {k = a - 1} n {m = (a - 1) * n + i} (omega arith) (omega arith)

pub row_of : (a n i : ℕ) → i < n → ((a - 1) * n + i) % n ≡ i
row_of a n i h = mul-add-mod_self_right (a - 1) n i ∙ mod-eq_of_lt h

-- row r of all k * n matrix rows: there is a state, its letter is one of k, its number is a state's, and it ends within the rows
pub record MatrixRow (k n r : ℕ) : Type 0 where
  pub some : 0 < n
  pub letter : r / n + 1 ≤ k
  pub state : r % n < n
  pub within : r * n + n ≤ k * n * n

pub matrix_row : (k n r : ℕ) → r < k * n → MatrixRow k n r
matrix_row k zero r h = absurd (omega (arith, mul-zero k))
matrix_row k (suc m) r h = record {
  some = omega arith;
  letter = omega (arith, (div-lt_iff_lt-mul {k = suc m} {x = r} {y = k} (omega arith)).1 h);
  state = mod-lt r (omega arith);
  within = omega (arith, mul-le (r + 1) (suc m) (k * suc m) (suc m) (omega arith) (omega arith));
}
