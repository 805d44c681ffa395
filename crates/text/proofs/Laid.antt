-- The text of a table that lies in memory. Assumes nothing.
use Rattle.std.proofs.Common.{◌≡◌, ℕ, zero, suc, ◌+◌, ◌-◌, ◌*◌, ◌/◌, ◌%◌, ◌<◌, ◌≤◌, List, [], ◌∷◌, ◌++◌, map, length, get_or, take, drop, sym, refl, ap, ◌∙◌, subst, mul_assoc, add-mul, zero-mul, add-one, arith}
use Rattle.std.specs.List.{range_with_len, flat_map}
use Rattle.std.proofs.lemmas.Nat.{div-mul-add, mod-mul-add}
use Rattle.std.proofs.lemmas.List.{length-map, map-append, length-append, take_at, drop_at, take_all, drop-drop, drop_more, take-take, drop-take}
use Rattle.field.specs.FiniteField.{FiniteField}
use Rattle.field.specs.Rows.{at, row_at, square_at}
use Rattle.rows.specs.Layout.{table_size, matrix_offset, end_offset, table_at}
use Rattle.columns.specs.Lines.{line}
use Rattle.reader.specs.Items.{ranged, line_items, Stops}
use Rattle.reader.specs.Steps.{left, Went}
use Rattle.text.specs.Texts.{row_codes, matrix_line, matrix_lines, body_of, matrix_items, body_items, code_items}
use Rattle.text.specs.Rows.{codes_of, row, row_line, row_lines}
use Rattle.faults.specs.declared.Position.{Position}
use Rattle.faults.specs.declared.LoadFault.{LoadFault}
use Rattle.reader.specs.declared.Reader.{Reader}
use Rattle.text.proofs.Joins.{joined_more_counting, joined_split, rows_fit}
use Rattle.text.proofs.Rows.{items_at}
use Rattle.text.proofs.Bodies.{body, items}

-- a list joined by a count that starts later
shift : {X : Type 0} (p q : ℕ → List X) (b a m : ℕ) → ((i : ℕ) → a ≤ i → i < a + m → p i ≡ q (b + i)) → flat_map p (range_with_len a m) ≡ flat_map q (range_with_len (b + a) m)
shift p q b a zero h = refl
shift p q b a (suc m) h =
    let e : b + (a + 1) ≡ b + a + 1 = omega arith in
    (λ i. h a (omega arith) (omega arith) i ++ shift p q b (a + 1) m (λ i l u. h i (omega arith) (omega arith)) i)
    ∙ ap (λ s. q (b + a) ++ flat_map q (range_with_len s m)) e

-- lists joined by two counts, and by one that goes through both
pub joined_nest : {X : Type 0} (f : ℕ → ℕ → List X) (g : ℕ → List X) (n k : ℕ) → ((a i : ℕ) → a < k → i < n → f (1 + a) i ≡ g (a * n + i)) → flat_map (λ a. flat_map (f a) (range_with_len 0 n)) (range_with_len 1 k) ≡ flat_map g (range_with_len 0 (k * n))
joined_nest f g n zero h = ap (λ m. flat_map g (range_with_len 0 m)) (sym (zero-mul n))
joined_nest f g n (suc k) h =
    let more : suc k * n ≡ k * n + n = ap (λ m. m * n) (sym (add-one k)) ∙ omega (arith, add-mul k 1 n) in
    let z : 0 + k * n ≡ k * n = omega arith in
    let last : flat_map (f (1 + k)) (range_with_len 0 n) ≡ flat_map g (range_with_len (k * n) n) = shift (f (1 + k)) g (k * n) 0 n (λ i l u. h k i (omega arith) (omega arith)) ∙ ap (λ m. flat_map g (range_with_len m n)) (let w : k * n + 0 ≡ k * n = omega arith in w) in
    joined_more_counting (λ a. flat_map (f a) (range_with_len 0 n)) 1 k
    ∙ (λ i. joined_nest f g n k (λ a i l u. h a i (omega arith) u) i ++ last i)
    ∙ sym (ap (λ m. flat_map g (range_with_len 0 m)) more ∙ joined_split g 0 (k * n) n ∙ ap (λ m. flat_map g (range_with_len 0 (k * n)) ++ flat_map g (range_with_len m n)) z)

-- a row within rows that are cut out of a longer list
pub row_cut : (n p m a : ℕ) (cs : List ℕ) → p + n ≤ m → take n (drop p (take m (drop a cs))) ≡ take n (drop (a + p) cs)
row_cut n p m a cs h =
    let r : p + (m - p) ≡ m = omega arith in
    ap (λ k. take n (drop p (take k (drop a cs)))) (sym r)
    ∙ ap (take n) (drop-take p (m - p) (drop a cs))
    ∙ take-take n (m - p) (drop p (drop a cs)) (omega arith)
    ∙ ap (take n) (drop-drop p a cs)

-- the entries of a list, read one by one
pub entries : (cs : List ℕ) (b a n : ℕ) → b + a + n ≤ length cs → map (λ i. get_or cs (b + i) 0) (range_with_len a n) ≡ take n (drop (b + a) cs)
entries cs b a zero h = refl
entries cs b a (suc n) h =
    let e : b + (a + 1) ≡ b + a + 1 = omega arith in
    (λ i. get_or cs (b + a) 0 ∷ (entries cs b (a + 1) n (omega arith) ∙ ap (λ k. take n (drop k cs)) e) i)
    ∙ ap (take (suc n)) (sym (drop_more cs (b + a) 0 (omega arith)))

map_agree : {X Y : Type 0} (f g : X → Y) → ((x : X) → f x ≡ g x) → (l : List X) → map f l ≡ map g l
map_agree f g h [] = refl
map_agree f g h (x ∷ l) = λ i. h x i ∷ map_agree f g h l i

module _ {F V : Type 0} (K : FiniteField V) (value : F → V) where
  -- the code of what lies at i; 0 is the code past the end too
  pub code_at : (xs : List F) (i : ℕ) → K.code (at K value xs i) ≡ get_or (codes_of K value xs) i 0
  code_at [] i = K.code_zero
  code_at (x ∷ xs) zero = refl
  code_at (x ∷ xs) (suc i) = code_at xs i

  codes_row : (xs : List F) (x : ℕ → V) (b n : ℕ) → b + n ≤ length xs → ((i : ℕ) → x i ≡ at K value xs (b + i)) → row_codes K n x ≡ take n (drop b (codes_of K value xs))
  codes_row xs x b n h same =
      let z : b + 0 ≡ b = omega arith in
      map_agree (λ i. K.code (x i)) (λ i. get_or (codes_of K value xs) (b + i) 0) (λ i. ap K.code (same i) ∙ code_at xs (b + i)) (range_with_len 0 n)
      ∙ entries (codes_of K value xs) b 0 n (omega (arith, length-map xs (λ x. K.code (value x))))
      ∙ ap (λ k. take n (drop k (codes_of K value xs))) z

  module _ (xs : List F) (base n k : ℕ) (fits : base + table_size n k ≤ length xs) where
    cells : k * n * n ≡ k * (n * n)
    cells = mul_assoc k n n

    matrices : matrix_lines K (table_at K value xs base n k) ≡ row_lines n (take (k * n * n) (drop (base + n) (codes_of K value xs))) (k * n)
    matrices =
        joined_nest (matrix_line K (table_at K value xs base n k)) (row_line n (take (k * n * n) (drop (base + n) (codes_of K value xs)))) n k
        (λ a i l u.
        let cs = codes_of K value xs in
        let below : a * n + i < k * n = omega (arith, rows_fit a k n l) in
        let inside : (a * n + i) * n + n ≤ k * n * n = rows_fit (a * n + i) (k * n) n below in
        let at_row : matrix_offset base n (1 + a) + i * n ≡ base + n + (a * n + i) * n = omega (arith, add-mul (a * n) i n, mul_assoc a n n, ap (λ b. b * (n * n)) (let w : 1 + a - 1 ≡ a = omega arith in w)) in
        let letter : 1 + a ≡ (a * n + i) / n + 1 = omega (arith, div-mul-add a n i u) in
        let number : i + 1 ≡ (a * n + i) % n + 1 = omega (arith, mod-mul-add a n i u) in
        let entry : (j : ℕ) → matrix_offset base n (1 + a) + (i * n + j) ≡ base + n + (a * n + i) * n + j = λ j. omega (arith, at_row) in
        let there : row_codes K n (square_at K value xs (matrix_offset base n (1 + a)) n i) ≡ row n (take (k * n * n) (drop (base + n) cs)) (a * n + i) =
        codes_row xs _ (base + n + (a * n + i) * n) n (omega (arith, cells, inside)) (λ j. ap (at K value xs) (entry j)) ∙ sym (row_cut n ((a * n + i) * n) (k * n * n) (base + n) cs inside) in
        λ t. line 77 (letter t ∷ number t ∷ there t))

    pub laid : body_of K (table_at K value xs base n k) ≡ body n (k * n) (take n (drop base (codes_of K value xs))) (take (k * n * n) (drop (base + n) (codes_of K value xs))) (take n (drop (base + n + k * n * n) (codes_of K value xs)))
    unfolding body_of
    laid =
        let start = codes_row xs (row_at K value xs base) base n (omega arith) (λ i. refl) in
        let end = codes_row xs (row_at K value xs (end_offset base n k)) (base + n + k * n * n) n (omega (arith, cells)) (λ i. ap (at K value xs) (omega (arith, cells))) in
        λ t. line 83 (start t) ++ (matrices t ++ (line 69 (end t) ++ line 90 []))

  -- a table whose start row, matrices and end column lie one after another
  pub parts_laid : (start rows end : List F) (n k : ℕ) → length start ≡ n → length rows ≡ k * n * n → length end ≡ n → body_of K (table_at K value (start ++ (rows ++ end)) 0 n k) ≡ body n (k * n) (codes_of K value start) (codes_of K value rows) (codes_of K value end)
  parts_laid start rows end n k first middle last =
      let c = λ (x : F). K.code (value x) in
      let m = k * n * n in
      let s = codes_of K value start in
      let r = codes_of K value rows in
      let e = codes_of K value end in
      let long = λ (xs : List F). length-map xs c in
      let all : codes_of K value (start ++ (rows ++ end)) ≡ s ++ (r ++ e) = map-append c start (rows ++ end) ∙ ap (λ l. s ++ l) (map-append c rows end) in
      let z : 0 + n ≡ n = omega arith in
      let past : drop (0 + n) (s ++ (r ++ e)) ≡ r ++ e = ap (λ i. drop i (s ++ (r ++ e))) z ∙ drop_at s (r ++ e) n (long start ∙ first) in
      laid (start ++ (rows ++ end)) 0 n k (omega (arith, length-append start (rows ++ end), length-append rows end, mul_assoc k n n))
      ∙ ap (λ l. body n (k * n) (take n l) (take m (drop (0 + n) l)) (take n (drop (0 + n + m) l))) all
      ∙ (λ t. body n (k * n) (take_at s (r ++ e) n (long start ∙ first) t) ((ap (take m) past ∙ take_at r e m (long rows ∙ middle)) t)
      ((ap (take n) (sym (drop-drop m (0 + n) (s ++ (r ++ e))) ∙ ap (drop m) past ∙ drop_at r e m (long rows ∙ middle)) ∙ take_all n e (omega (arith, long end))) t))

  pub read_laid : (r s : Reader) (p : Position) (start rows end : List F) (n k : ℕ) → length start ≡ n → length rows ≡ k * n * n → length end ≡ n
      → Went r s (body n (k * n) (codes_of K value start) (codes_of K value rows) (codes_of K value end)) p → Went r s (body_of K (table_at K value (start ++ (rows ++ end)) 0 n k)) p
  read_laid r s p start rows end n k first middle last w = subst (λ l. Went r s l p) (sym (parts_laid start rows end n k first middle last)) w

  -- what is due, by one count through the letters and the rows
  pub due_items : (n k : ℕ) → items (K.q - 1) n (k * n) ≡ body_items K n k
  due_items n k =
      ap (λ l. line_items 83 (code_items K n) ++ (l ++ (line_items 69 (code_items K n) ++ line_items 90 [])))
      (sym (joined_nest (matrix_items K n) (items_at (K.q - 1) n) n k
      (λ a i l u.
      let letter : 1 + a ≡ (a * n + i) / n + 1 = omega (arith, div-mul-add a n i u) in
      let number : i + 1 ≡ (a * n + i) % n + 1 = omega (arith, mod-mul-add a n i u) in
      λ t. line_items 77 (ranged (letter t) (letter t) ∷ ranged (number t) (number t) ∷ code_items K n))))

  pub flat_stops : (n k : ℕ) (r : Reader) (f : LoadFault) → Stops (items (K.q - 1) n (k * n)) r.position (left r) f → Stops (body_items K n k) r.position (left r) f
  flat_stops n k r f s = subst (λ is. Stops is r.position (left r) f) (due_items n k) s
