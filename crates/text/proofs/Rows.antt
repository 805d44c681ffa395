-- Matrix lines, one after another. Assumes nothing.
use Rattle.std.proofs.Common.{◌≡◌, ℕ, zero, suc, ◌+◌, ◌-◌, ◌*◌, ◌/◌, ◌%◌, ◌^◌, ◌<◌, ◌≤◌, List, [], ◌∷◌, ◌++◌, length, take, drop, replicate, sym, refl, ap, ◌∙◌, subst, add-zero, add-mul, div-le_self, add-one, arith}
use native.Mathlib.Nat.{mod-le}
use borrow.Rule.Slice.PartMut.{put_mid}
use Rattle.std.specs.List.{range_with_len, flat_map, AllByRecursion as All}
use Rattle.std.proofs.lemmas.List.{drop-take, length-take, length-drop}
use Rattle.std.proofs.lemmas.Slice.{take-put_mid_below, take-put_mid}
use Rattle.std.proofs.ByRecursion.{All-append, All-take, All-drop}
use Rattle.columns.specs.Lines.{line}
use Rattle.reader.specs.Items.{Item, first, ranged, close, along, after, line_items, Goes, Stops}
use Rattle.reader.specs.Steps.{left, Went}
use Rattle.text.specs.Rows.{row, row_line}
use Rattle.faults.specs.declared.Position.{Position}
use Rattle.faults.specs.declared.LoadFault.{LoadFault}
use Rattle.reader.specs.declared.Reader.{Reader}
use Rattle.text.proofs.Joins.{joined_more_counting, joined_same, joined_split, rows_fit, row_here}
use Rattle.reader.proofs.Runs.{after_all, went_none, went_more, stops_front, went_stops_all, goes_append, after_append, goes_row, heads_after, value_goes, after_row}

-- what is due in the line of row j
abbrev pub items_at : ℕ → ℕ → ℕ → List Item
items_at high n j = line_items 77 (ranged (j / n + 1) (j / n + 1) ∷ ranged (j % n + 1) (j % n + 1) ∷ replicate n (ranged 0 high))

-- j lines further
abbrev pub down : Position → ℕ → Position
down p j = record { line = p.line + j; column = 1 }

pub line_goes : (k : ℕ) (is : List Item) (body : List ℕ) → Goes is body → Goes (first k ∷ (is ++ close ∷ [])) (k ∷ (body ++ 10 ∷ []))
unfolding Goes
line_goes k is body g = (k ∷ [], body ++ 10 ∷ [], refl, goes_append is (close ∷ []) body (10 ∷ []) g (10 ∷ [], [], refl, refl, refl), refl)

pub row_below : (n a k : ℕ) (codes ys : List ℕ) (i : ℕ) → i * n + n ≤ a → a ≤ length codes → row n (put_mid a k codes ys) i ≡ row n codes i
row_below n a k codes ys i h l = sym (drop-take (i * n) n (put_mid a k codes ys)) ∙ ap (drop (i * n)) (take-put_mid_below a k codes ys (i * n + n) h l) ∙ drop-take (i * n) n codes

-- the first j lines are read
pub record Lined (r s : Reader) (n high : ℕ) (codes : List ℕ) (j : ℕ) : Type 0 where
  pub went : Went r s (flat_map (row_line n codes) (range_with_len 0 j)) (down r.position j)
  pub goes : Goes (flat_map (items_at high n) (range_with_len 0 j)) (flat_map (row_line n codes) (range_with_len 0 j))
  pub below : All (λ v. v ≤ high) (take (j * n) codes)

at_start : (p : Position) → p.column ≡ 1 → p ≡ down p 0
at_start p e = λ i. record { line = sym (add-zero p.line) i; column = e i }

pub down_down : (p : Position) (j k m : ℕ) → j + k ≡ m → down (down p j) k ≡ down p m
down_down p j k m e = λ i. record { line = (let w : p.line + j + k ≡ p.line + m = omega arith in w) i; column = 1 }

pub lined_none : (r : Reader) (n high : ℕ) (codes : List ℕ) → r.position.column ≡ 1 → Lined r r n high codes 0
unfolding Goes
lined_none r n high codes e =
    let z : 0 * n ≡ 0 = omega arith in
    record { went = went_none r _ (at_start r.position e); goes = refl; below = subst (λ m. All (λ v. v ≤ high) (take m codes)) (sym z) tt }

module _ (n high : ℕ) (small : high < 10 ^ 10) where
  matrix_goes : (j : ℕ) (ys : List ℕ) → j < 1000 → length ys ≡ n → All (λ v. v ≤ high) ys → Goes (items_at high n j) (line 77 ((j / n + 1) ∷ (j % n + 1) ∷ ys))
  matrix_goes j ys few e below =
      line_goes 77 _ _
      (value_goes (j / n + 1) (j / n + 1) _ (j / n + 1) _ (omega (arith, div-le_self j n)) (omega arith) (omega arith)
      (value_goes (j % n + 1) (j % n + 1) _ (j % n + 1) _ (omega (arith, mod-le j n)) (omega arith) (omega arith)
      (goes_row high n ys small e below)))

  -- the lines so far, after the codes of one more row are written
  module _ (codes ys : List ℕ) (j k : ℕ) (few : j < 1000) (fits : j * n ≤ length codes) (long : length ys ≡ n) where
    kept : flat_map (row_line n (put_mid (j * n) k codes ys)) (range_with_len 0 j) ≡ flat_map (row_line n codes) (range_with_len 0 j)
    kept = joined_same (row_line n (put_mid (j * n) k codes ys)) (row_line n codes) 0 j (λ i l m. ap (λ ys. line 77 ((i / n + 1) ∷ (i % n + 1) ∷ ys)) (row_below n (j * n) k codes ys i (rows_fit i j n (omega arith)) fits))

    lines_more : flat_map (row_line n (put_mid (j * n) k codes ys)) (range_with_len 0 (j + 1)) ≡ flat_map (row_line n codes) (range_with_len 0 j) ++ line 77 ((j / n + 1) ∷ (j % n + 1) ∷ ys)
    lines_more =
        let f = row_line n (put_mid (j * n) k codes ys) in
        let z : 0 + j ≡ j = omega arith in
        ap (λ m. flat_map f (range_with_len 0 m)) (add-one j) ∙ joined_more_counting f 0 j ∙ ap (λ m. flat_map f (range_with_len 0 j) ++ f m) z
        ∙ (λ i. kept i ++ line 77 ((j / n + 1) ∷ (j % n + 1) ∷ row_here n (j * n) k codes ys fits long i))

    items_more : flat_map (items_at high n) (range_with_len 0 (j + 1)) ≡ flat_map (items_at high n) (range_with_len 0 j) ++ items_at high n j
    items_more =
        let f = items_at high n in
        let z : 0 + j ≡ j = omega arith in
        ap (λ m. flat_map f (range_with_len 0 m)) (add-one j) ∙ joined_more_counting f 0 j ∙ ap (λ m. flat_map f (range_with_len 0 j) ++ f m) z

    codes_more : take ((j + 1) * n) (put_mid (j * n) k codes ys) ≡ take (j * n) codes ++ ys
    codes_more = take-put_mid (j * n) k codes ys ((j + 1) * n) (omega (arith, add-mul j 1 n)) fits

    pub lined_more : (r s t : Reader) → Lined r s n high codes j → Went s t (line 77 ((j / n + 1) ∷ (j % n + 1) ∷ ys)) (after close s.position) → All (λ v. v ≤ high) ys → Lined r t n high (put_mid (j * n) k codes ys) (j + 1)
    lined_more r s t lined w below =
        let on : Went s t (line 77 ((j / n + 1) ∷ (j % n + 1) ∷ ys)) (down r.position (j + 1)) =
        subst (Went s t _) (ap (λ p. down p 1) lined.went.position ∙ down_down r.position j 1 (j + 1) refl) w in
        record {
          went = subst (λ l. Went r t l (down r.position (j + 1))) (sym lines_more) (went_more r s t _ _ _ _ lined.went on);
          goes = subst (λ l. Goes (flat_map (items_at high n) (range_with_len 0 (j + 1))) l) (sym lines_more) (subst (λ is. Goes is (flat_map (row_line n codes) (range_with_len 0 j) ++ line 77 ((j / n + 1) ∷ (j % n + 1) ∷ ys))) (sym items_more) (goes_append _ _ _ _ lined.goes (matrix_goes j ys few long below)));
          below = subst (All (λ v. v ≤ high)) (sym codes_more) (All-append (λ v. v ≤ high) _ _ lined.below below);
        }

  pub after_line : (j : ℕ) (p : Position) → after_all (items_at high n j) p ≡ down p 1
  after_line j p =
      let is = ranged (j / n + 1) (j / n + 1) ∷ ranged (j % n + 1) (j % n + 1) ∷ replicate n (ranged 0 high) in
      after_append is (close ∷ []) (along p 1) ∙ ap (after close) (heads_after ((j / n + 1) ∷ (j % n + 1) ∷ []) high n (along p 1))

  pub after_lines : (a j : ℕ) (p : Position) → p.column ≡ 1 → after_all (flat_map (items_at high n) (range_with_len a j)) p ≡ down p j
  after_lines a zero p e = at_start p e
  after_lines a (suc j) p e =
      after_append (items_at high n a) (flat_map (items_at high n) (range_with_len (a + 1) j)) p
      ∙ ap (after_all (flat_map (items_at high n) (range_with_len (a + 1) j))) (after_line a p)
      ∙ after_lines (a + 1) j (down p 1) refl
      ∙ down_down p 1 j (suc j) (omega arith)

  items_split : (j m : ℕ) → j < m → flat_map (items_at high n) (range_with_len 0 m) ≡ flat_map (items_at high n) (range_with_len 0 j) ++ (items_at high n j ++ flat_map (items_at high n) (range_with_len (j + 1) (m - j - 1)))
  items_split j m h =
      let f = items_at high n in
      let e : m ≡ j + suc (m - j - 1) = omega arith in
      let z : 0 + j ≡ j = omega arith in
      ap (λ x. flat_map f (range_with_len 0 x)) e ∙ joined_split f 0 j (suc (m - j - 1)) ∙ ap (λ x. flat_map f (range_with_len 0 j) ++ flat_map f (range_with_len x (suc (m - j - 1)))) z

  pub lined_stops : (r s : Reader) (codes : List ℕ) (j m : ℕ) (f : LoadFault) → r.position.column ≡ 1 → j < m → Lined r s n high codes j → Stops (items_at high n j) s.position (left s) f → Stops (flat_map (items_at high n) (range_with_len 0 m)) r.position (left r) f
  lined_stops r s codes j m f e h lined stops =
      subst (λ is. Stops is r.position (left r) f) (sym (items_split j m h))
      (went_stops_all _ _ r s _ f lined.goes (subst (Went r s _) (sym (after_lines 0 j r.position e)) lined.went) (stops_front _ _ _ _ _ stops))

-- a line that is read as one of the row's length and first byte
pub part_stops : (b j n m high : ℕ) (p : Position) (bs : List ℕ) (f : LoadFault) → b ≡ 77 → m ≡ n → Stops (line_items b (ranged (j / n + 1) (j / n + 1) ∷ ranged (j % n + 1) (j % n + 1) ∷ replicate m (ranged 0 high))) p bs f → Stops (items_at high n j) p bs f
part_stops b j n m high p bs f d e stops = subst (λ k. Stops (line_items 77 (ranged (j / n + 1) (j / n + 1) ∷ ranged (j % n + 1) (j % n + 1) ∷ replicate k (ranged 0 high))) p bs f) e (subst (λ k. Stops (line_items k (ranged (j / n + 1) (j / n + 1) ∷ ranged (j % n + 1) (j % n + 1) ∷ replicate m (ranged 0 high))) p bs f) d stops)

module _ (high n m : ℕ) (small : high < 10 ^ 10) where
  pub lines_go : (rows : List ℕ) → length rows ≡ m * n → All (λ v. v ≤ high) rows → (a j : ℕ) → a + j ≡ m → m < 1000 → Goes (flat_map (items_at high n) (range_with_len a j)) (flat_map (row_line n rows) (range_with_len a j))
  unfolding Goes
  lines_go rows long below a zero e few = refl
  lines_go rows long below a (suc j) e few =
      let fits = rows_fit a m n (omega arith) in
      goes_append (items_at high n a) _ _ _
      (matrix_goes n high small a (row n rows a) (omega arith) (simp (length-take, length-drop) (omega arith)) (All-take (λ v. v ≤ high) n _ (All-drop (λ v. v ≤ high) (a * n) rows below)))
      (lines_go rows long below (a + 1) j (omega arith) few)

  pub row_line_goes : (k : ℕ) (vs : List ℕ) → length vs ≡ n → All (λ v. v ≤ high) vs → Goes (line_items k (replicate n (ranged 0 high))) (line k vs)
  row_line_goes k vs e below = line_goes k _ _ (goes_row high n vs small e below)

  pub after_row_line : (k : ℕ) (p : Position) → after_all (line_items k (replicate n (ranged 0 high))) p ≡ after close p
  after_row_line k p = after_append (replicate n (ranged 0 high)) (close ∷ []) (along p 1) ∙ ap (after close) (after_row high n (along p 1))

  pub row_stops : (b k l : ℕ) (js : List Item) (p : Position) (bs : List ℕ) (f : LoadFault) → b ≡ k → l ≡ n → Stops (line_items b (replicate l (ranged 0 high))) p bs f → Stops (line_items k (replicate n (ranged 0 high)) ++ js) p bs f
  row_stops b k l js p bs f d e stops = stops_front _ js p bs f (subst (λ i. Stops (line_items k (replicate i (ranged 0 high))) p bs f) e (subst (λ i. Stops (line_items i (replicate l (ranged 0 high))) p bs f) d stops))

  row_went : (k : ℕ) (r s : Reader) (vs : List ℕ) → Went r s (line k vs) (after close r.position) → Went r s (line k vs) (after_all (line_items k (replicate n (ranged 0 high))) r.position)
  row_went k r s vs w = subst (Went r s (line k vs)) (sym (after_row_line k r.position)) w

  pub row_past : (b k : ℕ) (js : List Item) (r s : Reader) (vs : List ℕ) (f : LoadFault) → b ≡ k → length vs ≡ n → All (λ v. v ≤ high) vs → Went r s (line b vs) (after close r.position) → Stops js s.position (left s) f → Stops (line_items k (replicate n (ranged 0 high)) ++ js) r.position (left r) f
  row_past b k js r s vs f d e below w stops = went_stops_all _ js r s _ f (row_line_goes k vs e below) (row_went k r s vs (subst (λ i. Went r s (line i vs) (after close r.position)) d w)) stops

  lines_went : (r s : Reader) (rows : List ℕ) → r.position.column ≡ 1 → Went r s (flat_map (row_line n rows) (range_with_len 0 m)) (down r.position m) → Went r s (flat_map (row_line n rows) (range_with_len 0 m)) (after_all (flat_map (items_at high n) (range_with_len 0 m)) r.position)
  lines_went r s rows e w = subst (Went r s _) (sym (after_lines n high small 0 m r.position e)) w

  pub lines_past : (js : List Item) (r s : Reader) (rows : List ℕ) (f : LoadFault) → m < 1000 → length rows ≡ m * n → All (λ v. v ≤ high) rows → r.position.column ≡ 1 → Went r s (flat_map (row_line n rows) (range_with_len 0 m)) (down r.position m) → Stops js s.position (left s) f → Stops (flat_map (items_at high n) (range_with_len 0 m) ++ js) r.position (left r) f
  lines_past js r s rows f few long below e w stops = went_stops_all _ js r s _ f (lines_go rows long below 0 m (omega arith) few) (lines_went r s rows e w) stops
