-- What a write to a part of a slice leaves in the whole. Assumes nothing.
use Rattle.std.proofs.Common.{◌≡◌, ℕ, ◌+◌, ◌-◌, ◌<◌, ◌≤◌, List, ◌++◌, length, take, drop, sym, refl, ap, ◌∙◌, subst, arith, rules}
use Rattle.std.proofs.lemmas.List.{places}
use borrow.Rule.Slice.PartMut.{put_mid}
use Rattle.field.specs.FiniteField.{FiniteField}
use Rattle.field.specs.Rows.{Agree, at, row_at, square_at, RowOf}
use Rattle.field.specs.Sums.{dot, move}
use Rattle.rows.specs.Memory.{Frame, Written}
use Rattle.rows.specs.Seen.{SquareOf}
use Rattle.rows.proofs.Memory.{at_copied}
use Rattle.field.proofs.Rows.{dot_same, at_part}
use Rattle.rows.proofs.Splits.{at_front, at_back}
use Rattle.rows.proofs.Slices.{row_part}

module _ {X : Type 0} where
  -- the n elements from a on are written
  pub frame_part : (a n : ℕ) (xs ys : List X) → length ys ≡ n → a + n ≤ length xs → Frame a n xs (put_mid a n xs ys)
  frame_part a n xs ys e h =
      record {
        len = search (rules, places);
        below = λ k d l. search (rules, places);
        above = λ k d l. search (rules, places);
      }

  -- the front of a slice stays, and the back of it changes
  pub frame_back : {a n : ℕ} (m : ℕ) (front : List X) {xs ys : List X} → length front ≡ m → Frame a n xs ys → Frame (m + a) n (front ++ xs) (front ++ ys)
  frame_back {a} {n} m front {xs} {ys} e f =
      record {
        len = search (rules, places, f.len);
        below = λ k d l. search (rules, places, f.below);
        above = λ k d l. search (rules, places, f.above);
      }

module _ {F V : Type 0} (K : FiniteField V) (v : F → V) where
  -- a value in the first d
  pub at_first : (d : ℕ) (xs : List F) (i : ℕ) → i < d → at K v (take d xs) i ≡ at K v xs i
  at_first d xs i l = subst (λ m. at K v (take m xs) i ≡ at K v xs i) {x = d - 0} {y = d} (omega arith) (at_part K v 0 d xs i (omega arith) ∙ ap (at K v xs) {x = 0 + i} {y = i} (omega arith))

  -- a row is written to a part
  pub written_part : (a n : ℕ) {x : ℕ → V} (xs ys : List F) → RowOf K v n x ys → a + n ≤ length xs → Written K v a n x xs (put_mid a n xs ys)
  written_part a n xs ys r h =
      record {
        done = λ j l. at_copied K v ys (put_mid a n xs ys) j (a + j) (search (rules, r.len)) (search (rules, places, r.len)) (λ d. search (rules, places, r.len)) ∙ r.same j l;
        frame = frame_part a n xs ys r.len h;
      }

  -- a row is written to the part from a to b
  pub written_range : (a b n : ℕ) {x : ℕ → V} (xs ys : List F) → a + n ≡ b → b ≤ length xs → RowOf K v n x ys → Written K v a n x xs (put_mid a (b - a) xs ys)
  written_range a b n {x} xs ys w h r = subst (λ k. Written K v a n x xs (put_mid a k xs ys)) {x = n} {y = b - a} (omega arith) (written_part a n xs ys r (omega arith))

  -- the same behind a front
  pub written_back : {a n : ℕ} {x : ℕ → V} (m : ℕ) (front : List F) {xs ys : List F} → length front ≡ m → a + n ≤ length xs → Written K v a n x xs ys → Written K v (m + a) n x (front ++ xs) (front ++ ys)
  written_back {a} {n} {x} m front {xs} {ys} e h w =
      record {
        done = λ j l. ap (at K v (front ++ ys)) {x = m + a + j} {y = m + (a + j)} (omega arith) ∙ at_back K v front ys m (a + j) e ∙ w.done j l;
        frame = frame_back m front e w.frame;
      }

  -- a matrix times a column, and a row times a matrix, where the parts are known
  pub column_product : {n : ℕ} {m : ℕ → ℕ → V} {x : ℕ → V} {matrix column to : List F} → SquareOf K v n m matrix → RowOf K v n x column
      → RowOf K v (length column) (λ i. dot K (length column) (square_at K v matrix 0 (length column) i) (at K v column)) to → RowOf K v n (λ i. dot K n (m i) x) to
  column_product {n} {m} {x} {matrix} {column} {to} sq r w =
      let w = subst (λ k. RowOf K v k (λ i. dot K k (square_at K v matrix 0 k i) (at K v column)) to) r.len w in
      record { len = w.len; same = λ i l. w.same i l ∙ dot_same K n (sq.same i l) r.same }

  pub row_product : {n : ℕ} {m : ℕ → ℕ → V} {x : ℕ → V} {matrix row to : List F} → SquareOf K v n m matrix → RowOf K v n x row
      → RowOf K v (length row) (move K (length row) (square_at K v matrix 0 (length row)) (at K v row)) to → RowOf K v n (move K n m x) to
  row_product {n} {m} {x} {matrix} {row} {to} sq r w =
      let w = subst (λ k. RowOf K v k (move K k (square_at K v matrix 0 k) (at K v row)) to) r.len w in
      record { len = w.len; same = λ j l. w.same j l ∙ dot_same K n r.same (λ i h. sq.same i h j l) }

  -- a slice is split after m elements: a row that lies before them, and one that is written behind them
  module _ (m n : ℕ) {x : ℕ → V} {xs : List F} (front back : List F) (is : xs ≡ front ++ back) (long : length front ≡ m) where
    pub row_before : (a : ℕ) → a + n ≤ m → Agree n (row_at K v xs a) x → RowOf K v n x (take (a + n - a) (drop a front))
    row_before a h e = row_part K v a (a + n) n x front refl (omega arith) (λ j l. sym (at_front K v front back (a + j) (omega arith)) ∙ ap (λ xs. at K v xs (a + j)) (sym is) ∙ e j l)

    pub written_behind : (ys : List F) → n ≤ length back → RowOf K v n x ys → Written K v m n x xs (front ++ (ys ++ drop n back))
    written_behind ys h r =
        subst (λ a. Written K v a n x xs (front ++ (ys ++ drop n back))) {x = m + 0} {y = m} (omega arith)
        (subst (λ xs. Written K v (m + 0) n x xs (front ++ (ys ++ drop n back))) (sym is) (written_back m front long (omega arith) (written_part 0 n back ys r (omega arith))))
