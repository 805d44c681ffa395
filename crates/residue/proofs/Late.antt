-- Numbers that stand for residues: sums, products and remainders of them. Assumes nothing.
use Rattle.std.proofs.Common.{◌≡◌, ℕ, zero, suc, ◌+◌, ◌*◌, ◌%◌, ◌<◌, ◌≤◌, List, [], ◌∷◌, length, take, get_or, set, sym, ap, ap₂, ◌∙◌, subst, ⊎_elim, mod-eq_of_lt, arith}
use Rattle.std.proofs.Math.Nat.{add-mod}
use Rattle.std.proofs.lemmas.Bool.{cases_eq, cases_lt}
use Rattle.std.proofs.lemmas.Nat.{mul-le, mul-mod}
use Rattle.std.proofs.lemmas.List.{get_or-map, get_or-set_same, get_or-set_other, get_or-take, get_or_past, length-take}
use Rattle.field.specs.Below.{Below, same_below}
use Rattle.field.specs.Rows.{at, Agree, RowOf}
use Rattle.field.specs.Sums.{dot, move, less_rows}
use Rattle.field.proofs.Laws.{neg_times, neg_zero, one_times, zero_plus, zero_times}
use Rattle.field.proofs.Rows.{sum_more, less_rows_more}
use Rattle.residue.specs.Prime.{Prime}
use Rattle.residue.specs.Operations.{residue_of, positive}
use Rattle.residue.specs.Residues.{residues}
use Rattle.residue.specs.Sums.{UpTo, plus_multiple}

module _ {p : ℕ} (pr : Prime p) where
  pub residue_plus : (a b : ℕ) → residue_of p pr (a + b) ≡ (residues p pr).plus (residue_of p pr a) (residue_of p pr b)
  residue_plus a b = same_below _ _ (add-mod a b p)

  pub residue_times : (a b : ℕ) → residue_of p pr (a * b) ≡ (residues p pr).times (residue_of p pr a) (residue_of p pr b)
  residue_times a b = same_below _ _ (mul-mod a b p)

  -- an element stands for its own residue
  pub residue_same : (x : Below p) → residue_of p pr x.n ≡ x
  residue_same x = same_below _ _ (mod-eq_of_lt x.below)

  pub residue_again : (a : ℕ) → residue_of p pr (a % p) ≡ residue_of p pr a
  residue_again a = residue_same (residue_of p pr a)

  -- a sum, to which a product with an element is added
  pub residue_more : (s c : ℕ) (y : Below p) → residue_of p pr (s + c * y.n) ≡ (residues p pr).plus (residue_of p pr s) ((residues p pr).times (residue_of p pr c) y)
  residue_more s c y =
      residue_plus s (c * y.n) ∙ ap ((residues p pr).plus (residue_of p pr s)) (residue_times c y.n ∙ ap ((residues p pr).times (residue_of p pr c)) (residue_same y))

  -- the residue of a number in a list
  pub at_number : (xs : List ℕ) (i : ℕ) → i < length xs → residue_of p pr (get_or xs i 0) ≡ at (residues p pr) (residue_of p pr) xs i
  at_number xs i h = sym (get_or-map (residue_of p pr) xs i 0 (residues p pr).zero h)

  -- a sum of products, to which one product more is added
  pub dot_more : (i s m : ℕ) (f h : ℕ → Below p) (x y : Below p) → residue_of p pr s ≡ dot (residues p pr) i f h → m ≡ x.n * y.n → x ≡ f i → y ≡ h i
      → residue_of p pr (s + m) ≡ dot (residues p pr) (i + 1) f h
  dot_more i s m f h x y stands e here there =
      ap (λ z. residue_of p pr (s + z)) e ∙ residue_more s x.n y
      ∙ ap₂ (residues p pr).plus stands (ap₂ (residues p pr).times (residue_same x ∙ here) there)
      ∙ sum_more (residues p pr) i (λ k. (residues p pr).times (f k) (h k))

-- products of two numbers up to 65537
pub product_small : (a b : ℕ) → a ≤ 65537 → b ≤ 65537 → a * b ≤ 65537 * 65537
product_small a b h l = mul-le a b 65537 65537 h l

pub up_to_set : (b : ℕ) (xs : List ℕ) (j x : ℕ) → j < length xs → UpTo b xs → x ≤ b → UpTo b (set xs j x)
up_to_set b xs j x l u h k =
    ⊎_elim
    (λ e. subst (λ i. get_or (set xs j x) i 0 ≤ b) (sym e) (subst (λ n. n ≤ b) (sym (get_or-set_same xs j x 0 l)) h))
    (λ n. subst (λ m. m ≤ b) (sym (get_or-set_other xs j k x 0 n)) (u k))
    (cases_eq k j)

up_to_take : (b n : ℕ) (xs : List ℕ) → UpTo b xs → UpTo b (take n xs)
up_to_take b n xs u j =
    ⊎_elim
    (λ l. subst (λ m. m ≤ b) (sym (get_or-take n xs j 0 l)) (u j))
    (λ h. subst (λ m. m ≤ b) (sym (get_or_past (take n xs) j 0 (omega (arith, length-take n xs)))) (omega arith))
    (cases_lt j n)

abbrev pub zeros : ℕ → List ℕ
zeros zero = []
zeros (suc n) = 0 ∷ zeros n

up_to_zeros : (n : ℕ) → UpTo 0 (zeros n)
up_to_zeros zero j = omega arith
up_to_zeros (suc n) zero = omega arith
up_to_zeros (suc n) (suc j) = up_to_zeros n j

-- the first n of zeros
pub up_to_start : (n k : ℕ) → UpTo 0 (take n (zeros k))
up_to_start n k = up_to_take 0 n (zeros k) (up_to_zeros k)

module _ {p : ℕ} (pr : Prime p) where
  pub stand_zero : (n : ℕ) (xs : List ℕ) → length xs ≡ n → UpTo 0 xs → RowOf (residues p pr) (residue_of p pr) n (λ _. (residues p pr).zero) xs
  stand_zero n xs h u = record {
    len = h;
    same = λ j l.
        sym (at_number pr xs j (omega arith)) ∙ ap (residue_of p pr) {x = get_or xs j 0} {y = 0} (let z = u j in omega arith)
        ∙ same_below _ _ (mod-eq_of_lt (positive p pr));
  }

  -- a row times a matrix of one row more
  pub stand_times : (n i c : ℕ) (m : ℕ → ℕ → Below p) (x y : ℕ → Below p) (xs ys : List ℕ) → RowOf (residues p pr) (residue_of p pr) n (move (residues p pr) i m x) xs
      → RowOf (residues p pr) (residue_of p pr) (length xs) (plus_multiple pr (at (residues p pr) (residue_of p pr) xs) c y) ys → residue_of p pr c ≡ x i → Agree n y (m i)
      → RowOf (residues p pr) (residue_of p pr) n (move (residues p pr) (i + 1) m x) ys
  stand_times n i c m x y xs ys s t e a = record {
    len = t.len ∙ s.len;
    same = λ j l.
        t.same j (omega (arith, s.len))
        ∙ ap₂ (residues p pr).plus (s.same j l) (ap₂ (residues p pr).times e (a j l))
        ∙ sum_more (residues p pr) i (λ k. (residues p pr).times (x k) (m k j));
  }

  -- a row, from which one row more is taken
  pub stand_less : (n b c : ℕ) (q : ℕ → ℕ → Below p) (v : ℕ → ℕ) (x y : ℕ → Below p) (xs ys : List ℕ) → RowOf (residues p pr) (residue_of p pr) n (less_rows (residues p pr) b q v x) xs
      → RowOf (residues p pr) (residue_of p pr) (length xs) (plus_multiple pr (at (residues p pr) (residue_of p pr) xs) c y) ys → residue_of p pr c ≡ (residues p pr).opposite (less_rows (residues p pr) b q v x (v b)) → Agree n y (q b)
      → RowOf (residues p pr) (residue_of p pr) n (less_rows (residues p pr) (b + 1) q v x) ys
  stand_less n b c q v x y xs ys s t e a = record {
    len = t.len ∙ s.len;
    same = λ j l.
        t.same j (omega (arith, s.len))
        ∙ ap₂ (residues p pr).plus (s.same j l) (ap₂ (residues p pr).times e (a j l) ∙ neg_times (residues p pr) (less_rows (residues p pr) b q v x (v b)) (q b j))
        ∙ ap (λ f. f j) (less_rows_more (residues p pr) b q v x);
  }

  -- a row, from which one row more takes nothing
  pub stand_kept : (n b : ℕ) (q : ℕ → ℕ → Below p) (v : ℕ → ℕ) (x : ℕ → Below p) (xs : List ℕ) → RowOf (residues p pr) (residue_of p pr) n (less_rows (residues p pr) b q v x) xs
      → less_rows (residues p pr) b q v x (v b) ≡ (residues p pr).zero → RowOf (residues p pr) (residue_of p pr) n (less_rows (residues p pr) (b + 1) q v x) xs
  stand_kept n b q v x xs s z =
      let K = residues p pr in
      record {
        len = s.len;
        same = λ j l.
            s.same j l
            ∙ sym (ap (K.plus (less_rows K b q v x j)) (ap (λ f. K.opposite (K.times f (q b j))) z ∙ ap K.opposite (zero_times K (q b j)) ∙ neg_zero K) ∙ K.plus_zero (less_rows K b q v x j))
            ∙ ap (λ f. f j) (less_rows_more K b q v x);
      }

  -- sums of nothing, to which a row is added
  pub stand_start : (n : ℕ) (x : ℕ → Below p) (xs ys : List ℕ) → RowOf (residues p pr) (residue_of p pr) n (λ _. (residues p pr).zero) xs
      → RowOf (residues p pr) (residue_of p pr) (length xs) (plus_multiple pr (at (residues p pr) (residue_of p pr) xs) 1 x) ys → RowOf (residues p pr) (residue_of p pr) n x ys
  stand_start n x xs ys s t = record {
    len = t.len ∙ s.len;
    same = λ j l.
        t.same j (omega (arith, s.len))
        ∙ ap₂ (residues p pr).plus (s.same j l) (ap (λ o. (residues p pr).times o (x j)) {x = residue_of p pr 1} {y = (residues p pr).one} (same_below _ _ (mod-eq_of_lt pr.low)) ∙ one_times (residues p pr) (x j))
        ∙ zero_plus (residues p pr) (x j);
  }
