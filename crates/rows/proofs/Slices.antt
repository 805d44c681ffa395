-- Rows and matrices in a part of a slice. Assumes nothing.
use Rattle.std.proofs.Common.{◌≡◌, ℕ, ◌+◌, ◌-◌, ◌*◌, ◌<◌, ◌≤◌, List, length, take, drop, slice_range, refl, ap, ◌∙◌, arith}
use Rattle.std.proofs.lemmas.Nat.{mul-add-lt}
use Rattle.std.proofs.lemmas.List.{take-take, drop-drop, drop-take}
use Rattle.field.specs.FiniteField.{FiniteField}
use Rattle.field.specs.Rows.{Agree, at, row_at, square_at, RowOf}
use Rattle.field.specs.Sums.{dot}
use Rattle.series.specs.Tables.{SameTable}
use Rattle.rows.specs.Layout.{table_size, table_at}
use Rattle.rows.proofs.Layouts.{matrix_within}
use Rattle.rows.specs.Seen.{SquareOf}
use Rattle.field.proofs.Rows.{dot_same}
use Rattle.field.proofs.Rows.{length_part, at_part}

-- a part of a part
pub part_of_part : {F : Type 0} (a n b m : ℕ) (xs : List F) → b + m ≤ n → slice_range (slice_range xs a (a + n)) b (b + m) ≡ slice_range xs (a + b) (a + b + m)
part_of_part a n b m xs h =
    let whole : a + n - a ≡ b + (n - b) = omega arith in
    ap (λ k. take (b + m - b) (drop b (take k (drop a xs)))) whole
    ∙ ap (take (b + m - b)) (drop-take b (n - b) (drop a xs))
    ∙ take-take (b + m - b) (n - b) (drop b (drop a xs)) (omega arith)
    ∙ ap (take (b + m - b)) (drop-drop b a xs)
    ∙ ap (λ k. take k (drop (a + b) xs)) (omega arith)

module _ {F V : Type 0} (K : FiniteField V) (v : F → V) where
  -- a part as a row
  pub row_part : (a b n : ℕ) (x : ℕ → V) (xs : List F) → a + n ≡ b → b ≤ length xs → Agree n (row_at K v xs a) x → RowOf K v n x (take (b - a) (drop a xs))
  row_part a b n x xs w h e = record {
    len = length_part a b xs (omega arith) h ∙ omega arith;
    same = λ i l. at_part K v a b xs i (omega arith) ∙ e i l;
  }

  -- a part as a matrix
  pub square_part : (a b n : ℕ) (m : ℕ → ℕ → V) (xs : List F) → a + n * n ≡ b → b ≤ length xs → ((i : ℕ) → i < n → Agree n (square_at K v xs a n i) (m i)) → SquareOf K v n m (take (b - a) (drop a xs))
  square_part a b n m xs w h e = record {
    len = length_part a b xs (omega arith) h ∙ omega arith;
    same = λ i p j q. at_part K v a b xs (0 + (i * n + j)) (omega (arith, mul-add-lt i n j n p q)) ∙ ap (at K v xs) (omega arith) ∙ e i p j q;
  }

module _ {F V : Type 0} (K : FiniteField V) (v : F → V) where
  -- a dot product with a part
  pub dot_part : (a b n : ℕ) (xs : List F) (y : ℕ → V) → a + n ≡ b → b ≤ length xs → dot K (length (take (b - a) (drop a xs))) (at K v (take (b - a) (drop a xs))) y ≡ dot K n (row_at K v xs a) y
  dot_part a b n xs y w h =
      ap (λ m. dot K m (at K v (take (b - a) (drop a xs))) y) (length_part a b xs (omega arith) h ∙ omega arith)
      ∙ dot_same K n (λ i l. at_part K v a b xs i (omega arith)) (λ i l. refl)

  -- a row times a column, by what the two slices hold
  pub dot_seen : (n : ℕ) {x y : ℕ → V} {row column : List F} → RowOf K v n x row → RowOf K v n y column → dot K (length row) (at K v row) (λ i. at K v column (0 + i * 1)) ≡ dot K n x y
  dot_seen n {x} {y} {row} {column} r s =
      ap (λ k. dot K k (at K v row) (λ i. at K v column (0 + i * 1))) r.len ∙ dot_same K n r.same (λ i l. ap (at K v column) (omega arith) ∙ s.same i l)

  -- a part as a table
  pub table_part : (base b n k : ℕ) (xs : List F) → base + table_size n k ≡ b → SameTable (table_at K v (take (b - base) (drop base xs)) 0 n k) (table_at K v xs base n k)
  table_part base b n k xs w =
      let e : (i j : ℕ) → base + i < b → base + i ≡ j → at K v (take (b - base) (drop base xs)) i ≡ at K v xs j = λ i j l s. at_part K v base b xs i l ∙ ap (at K v xs) s in
      record {
        states = refl;
        letters = refl;
        start = λ i p. e (0 + i) (base + i) (omega arith) (omega arith);
        step = λ a low high i p j q.
            let inner = mul-add-lt i n j n p q in
            let outer = matrix_within a k (n * n) low high in
            e (0 + n + (a - 1) * (n * n) + (i * n + j)) (base + n + (a - 1) * (n * n) + (i * n + j)) (omega arith) (omega arith);
        end = λ i p. e (0 + n + k * (n * n) + i) (base + n + k * (n * n) + i) (omega arith) (omega arith);
      }
