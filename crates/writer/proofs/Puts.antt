-- Numbers, lines and texts that are written. Assumes nothing.
use Rattle.std.proofs.Common.{◌≡◌, ℕ, suc, ◌+◌, ◌-◌, ◌*◌, ◌/◌, ◌%◌, ◌≤◌, List, [], ◌∷◌, ◌++◌, length, take, drop, set, sym, ap, ◌∙◌, mul_assoc, add-mul, add-one, arith}
use borrow.Rule.Slice.PartMut.{put_mid}
use Rattle.std.specs.List.{range_with_len, flat_map}
use Rattle.std.specs.declared.option.Option.{Option}
use Rattle.std.proofs.lemmas.Iterator.{YieldsList}
use Rattle.std.proofs.lemmas.List.{length-set, length-take, length-drop, set_split, drop_all, take-map, drop-map}
use Rattle.std.proofs.lemmas.Grind.{take-set_at}
use Rattle.field.specs.FiniteField.{FiniteField}
use Rattle.columns.specs.Lines.{line, numbers, TenDigits, Gives}
use Rattle.rows.specs.Layout.{table_size, table_at}
use Rattle.text.specs.Rows.{codes_of, row_line}
use Rattle.text.specs.Texts.{body_of, text_of}
use Rattle.columns.proofs.Filled.{length_put, cut_length, put_next}
use Rattle.text.proofs.Joins.{joined_more_counting}
use Rattle.text.proofs.Bodies.{body}
use Rattle.text.proofs.Laid.{row_cut, laid}

-- what a writer of numbers asks of an iterator that gives the list, and what it leaves
pub fill_numbers : {S : Type 0} {steps : S → Option ℕ → S → Type 0} {s : S} {vs : List ℕ} (n : ℕ) → YieldsList steps (λ v. v) s vs → TenDigits vs → n ≡ 11 * length vs → (us : List ℕ) × Gives steps s us × TenDigits us × (n ≡ 11 * length us)
fill_numbers {vs = vs} n road small long = (vs, road.runs, small, long)

pub filled_numbers : {S : Type 0} {steps : S → Option ℕ → S → Type 0} {s : S} {vs out : List ℕ} → ((us : List ℕ) → Gives steps s us → out ≡ numbers us) → YieldsList steps (λ v. v) s vs → out ≡ numbers vs
filled_numbers {vs = vs} written road = written vs road.runs

-- the room for each of two parts of a line, behind its first byte
pub room_in_front : (out : List ℕ) (b m n at : ℕ) → length out ≡ 2 + m + n → at ≡ 1 + m → length (take (at - 1) (drop 1 (set out 0 b))) ≡ m
room_in_front out b m n at long ha = cut_length 1 at m (set out 0 b) ha (omega (arith, length-set out 0 b))

pub room_behind : (out p : List ℕ) (b m n at e k : ℕ) → length out ≡ 2 + m + n → length p ≡ m → at ≡ 1 + m → e ≡ at + n → k ≡ m → length (take (e - at) (drop at (put_mid 1 k (set out 0 b) p))) ≡ n
room_behind out p b m n at e k long hp ha he hk =
    let a0 = length-set out 0 b in
    let a1 = length_put 1 k (set out 0 b) p (omega arith) (omega arith) in
    cut_length at e n _ he (omega arith)

-- a line whose numbers are written in two parts: its first byte, the parts, and byte 10
pub line_put_parts : (out p q : List ℕ) (b m n at e k l : ℕ) → length out ≡ 2 + m + n → length p ≡ m → length q ≡ n → at ≡ 1 + m → e ≡ at + n → k ≡ m → l ≡ n → set (put_mid at l (put_mid 1 k (set out 0 b) p) q) e 10 ≡ b ∷ (p ++ q) ++ 10 ∷ []
line_put_parts out p q b m n at e k l long hp hq ha he hk hl =
    let a0 = length-set out 0 b in
    let a1 = length_put 1 k (set out 0 b) p (omega arith) (omega arith) in
    let a2 = length_put at l (put_mid 1 k (set out 0 b) p) q (omega arith) (omega arith) in
    let one : take 1 (set out 0 b) ≡ b ∷ [] = take-set_at out 0 1 b (omega arith) (omega arith) in
    let two = put_next 1 k at (set out 0 b) (b ∷ []) p one (omega arith) (omega arith) in
    let three = put_next at l e (put_mid 1 k (set out 0 b) p) (b ∷ p) q two (omega arith) (omega arith) in
    let filled = put_mid at l (put_mid 1 k (set out 0 b) p) q in
    set_split filled e 10 (omega arith) ∙ (λ i. three i ++ 10 ∷ drop_all (suc e) filled (omega arith) i)

part_row : (a n : ℕ) (xs : List ℕ) → take (a + n - a) (drop a xs) ≡ take n (drop a xs)
part_row a n xs = ap (λ k. take k (drop a xs)) (omega arith)

-- one more line of a matrix row
pub lines_next : (n j w k : ℕ) (out codes ys : List ℕ) → j * w + w ≤ length out → length ys ≡ w → ys ≡ line 77 ((j / n + 1) ∷ (j % n + 1) ∷ take (j * n + n - j * n) (drop (j * n) codes)) → take (j * w) out ≡ flat_map (row_line n codes) (range_with_len 0 j) → take ((j + 1) * w) (put_mid (j * w) k out ys) ≡ flat_map (row_line n codes) (range_with_len 0 (j + 1))
lines_next n j w k out codes ys fits long is sofar =
    let z : 0 + j ≡ j = omega arith in
    put_next (j * w) k ((j + 1) * w) out _ ys sofar (omega arith) (omega (arith, add-mul j 1 w))
    ∙ ap (λ l. flat_map (row_line n codes) (range_with_len 0 j) ++ l) (is ∙ ap (λ r. line 77 ((j / n + 1) ∷ (j % n + 1) ∷ r)) (part_row (j * n) n codes))
    ∙ sym (ap (λ m. flat_map (row_line n codes) (range_with_len 0 m)) (add-one j) ∙ joined_more_counting (row_line n codes) 0 j ∙ ap (λ m. flat_map (row_line n codes) (range_with_len 0 j) ++ row_line n codes m) z)

module _ {F V : Type 0} (K : FiniteField V) (value : F → V) where
  pub cut_codes : (a b : ℕ) (xs : List F) → codes_of K value (take a (drop b xs)) ≡ take a (drop b (codes_of K value xs))
  cut_codes a b xs = sym (take-map (λ x. K.code (value x)) a (drop b xs)) ∙ ap (take a) (sym (drop-map (λ x. K.code (value x)) b xs))

  -- a table that is cut out of a longer list
  body_cut : (xs : List F) (base n k m : ℕ) → m ≡ table_size n k → base + table_size n k ≤ length xs → body_of K (table_at K value (take m (drop base xs)) 0 n k) ≡ body_of K (table_at K value xs base n k)
  body_cut xs base n k m e fits =
      let cs = codes_of K value xs in
      let cells = mul_assoc k n n in
      let z : base + 0 ≡ base = omega arith in
      let y : base + (0 + n) ≡ base + n = omega arith in
      let x : base + (0 + n + k * n * n) ≡ base + n + k * n * n = omega arith in
      laid K value (take m (drop base xs)) 0 n k (simp (length-take, length-drop) (omega arith))
      ∙ ap (λ l. body n (k * n) (take n l) (take (k * n * n) (drop (0 + n) l)) (take n (drop (0 + n + k * n * n) l))) (cut_codes m base xs)
      ∙ (λ i. body n (k * n) (row_cut n 0 m base cs (omega arith) i) (row_cut (k * n * n) (0 + n) m base cs (omega arith) i) (row_cut n (0 + n + k * n * n) m base cs (omega arith) i))
      ∙ (λ i. body n (k * n) (take n (drop (z i) cs)) (take (k * n * n) (drop (y i) cs)) (take n (drop (x i) cs)))
      ∙ sym (laid K value xs base n k fits)

  -- the two parts of a text
  pub text_written : (xs : List F) (base n k m : ℕ) (p q : List ℕ) → m ≡ table_size n k → base + table_size n k ≤ length xs → p ≡ line 84 (n ∷ k ∷ K.q ∷ []) → q ≡ body_of K (table_at K value (take m (drop base xs)) 0 n k) → p ++ q ≡ text_of K (table_at K value xs base n k)
  unfolding text_of
  text_written xs base n k m p q e fits hp hq = λ i. hp i ++ (hq ∙ body_cut xs base n k m e fits) i
