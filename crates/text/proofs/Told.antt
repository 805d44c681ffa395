-- The length of a table's text, and what the text states of the table. Assumes nothing.
use Rattle.std.proofs.Common.{◌≡◌, ℕ, zero, suc, ◌+◌, ◌*◌, ◌^◌, ◌<◌, ◌≤◌, List, [], ◌∷◌, ◌++◌, map, length, get_or, drop, sym, refl, ap, ◌∙◌, mul_assoc, arith}
use Rattle.std.specs.List.{range_with_len, flat_map}
use Rattle.std.proofs.lemmas.List.{length-append}
use Rattle.field.specs.FiniteField.{FiniteField}
use Rattle.field.proofs.Laws.{code_only}
use Rattle.field.specs.Rows.{Agree}
use Rattle.series.specs.Tables.{Table, SameTable}
use Rattle.columns.specs.Lines.{line, TenDigits}
use Rattle.text.specs.Texts.{Limits, text_size, row_codes, matrix_line, matrix_lines, body_of, text_of}
use Rattle.text.specs.Readings.{Sized}
use Rattle.text.specs.Facts.{LengthIs, ToldApart}
use Rattle.columns.proofs.Lengths.{length_line, length_joined, line_same, joined_parts}

-- equal lists of what two functions give at each count
pub agree_from : (f g : ℕ → ℕ) (a n : ℕ) → map f (range_with_len a n) ≡ map g (range_with_len a n) → (i : ℕ) → i < n → f (a + i) ≡ g (a + i)
agree_from f g a zero e i h = absurd (omega arith)
agree_from f g a (suc n) e zero h = let z : a ≡ a + 0 = omega arith in ap f (sym z) ∙ ap (λ l. get_or l 0 0) e ∙ ap g z
agree_from f g a (suc n) e (suc i) h = let s : a + 1 + i ≡ a + suc i = omega arith in ap f (sym s) ∙ agree_from f g (a + 1) n (ap (drop 1) e) i (omega arith) ∙ ap g s

module _ {V : Type 0} (K : FiniteField V) where
  codes_small_from : (x : ℕ → V) (a n : ℕ) → TenDigits (map (λ i. K.code (x i)) (range_with_len a n))
  codes_small_from x a zero = tt
  codes_small_from x a (suc n) = (omega (arith, K.code_below (x a), K.q_high), codes_small_from x (a + 1) n)

  pub codes_few : (n : ℕ) (x : ℕ → V) → TenDigits (row_codes K n x)
  codes_few n x = codes_small_from x 0 n

  length_from : (x : ℕ → V) (a n : ℕ) → length (map (λ i. K.code (x i)) (range_with_len a n)) ≡ n
  length_from x a zero = refl
  length_from x a (suc n) = ap suc (length_from x (a + 1) n)

  pub length_codes : (n : ℕ) (x : ℕ → V) → length (row_codes K n x) ≡ n
  length_codes n x = length_from x 0 n

  codes_agree : (n : ℕ) (x y : ℕ → V) → row_codes K n x ≡ row_codes K n y → Agree n x y
  codes_agree n x y e i h =
      let z : 0 + i ≡ i = omega arith in
      code_only K (x i) (y i) (ap (λ j. K.code (x j)) (sym z) ∙ agree_from (λ j. K.code (x j)) (λ j. K.code (y j)) 0 n e i h ∙ ap (λ j. K.code (y j)) z)

  module _ (T : Table V) (sized : Sized T) where
    table_few : TenDigits (T.states ∷ T.letters ∷ K.q ∷ [])
    table_few = (omega (arith, sized.states), (omega (arith, sized.letters), (omega (arith, K.q_high), tt)))

    matrix_few : (a i : ℕ) → a ≤ 6 → i < 16 → TenDigits (a ∷ (i + 1) ∷ row_codes K T.states (T.step a i))
    matrix_few a i h l = (omega arith, (omega arith, codes_few T.states (T.step a i)))

    length_matrix_line : (a i : ℕ) → a ≤ 6 → i < 16 → length (matrix_line K T a i) ≡ 24 + 11 * T.states
    length_matrix_line a i h l = length_line 77 (a ∷ (i + 1) ∷ row_codes K T.states (T.step a i)) (matrix_few a i h l) ∙ omega (arith, length_codes T.states (T.step a i))

    length_matrix : (a : ℕ) → a ≤ 6 → length (flat_map (matrix_line K T a) (range_with_len 0 T.states)) ≡ T.states * (24 + 11 * T.states)
    length_matrix a h = length_joined (matrix_line K T a) (24 + 11 * T.states) 0 T.states (λ i l u. length_matrix_line a i h (omega (arith, sized.states)))

    length_matrices : length (matrix_lines K T) ≡ T.letters * (T.states * (24 + 11 * T.states))
    length_matrices = length_joined (λ a. flat_map (matrix_line K T a) (range_with_len 0 T.states)) (T.states * (24 + 11 * T.states)) 1 T.letters (λ a l u. length_matrix a (omega (arith, sized.letters)))

    length_text : length (text_of K T) ≡ text_size T.states T.letters
    unfolding text_of body_of
    length_text =
        let n = T.states in
        let end = line 69 (row_codes K n T.end) ++ line 90 [] in
        omega (
          arith,
          length-append (line 84 (n ∷ T.letters ∷ K.q ∷ [])) (line 83 (row_codes K n T.start) ++ (matrix_lines K T ++ end)),
          length-append (line 83 (row_codes K n T.start)) (matrix_lines K T ++ end),
          length-append (matrix_lines K T) end,
          length-append (line 69 (row_codes K n T.end)) (line 90 []),
          length_line 84 (n ∷ T.letters ∷ K.q ∷ []) table_few,
          length_line 83 (row_codes K n T.start) (codes_few n T.start),
          length_line 69 (row_codes K n T.end) (codes_few n T.end),
          length_codes n T.start,
          length_codes n T.end,
          length_matrices,
          mul_assoc T.letters n (24 + 11 * n),
        )

  pub length_is : LengthIs K
  length_is = length_text

  -- tables of one size
  module _ (S T : Table V) (hs : Sized S) (ht : Sized T) (nn : S.states ≡ T.states) (kk : S.letters ≡ T.letters) where
    -- T's numbers under S's sizes
    resized : Table V
    resized = record { states = S.states; letters = S.letters; start = T.start; step = T.step; end = T.end }

    body_resized : body_of K T ≡ body_of K resized
    unfolding resized
    body_resized = λ i. body_of K (record { states = sym nn i; letters = sym kk i; start = T.start; step = T.step; end = T.end })

    body_told : body_of K S ≡ body_of K T → SameTable S T
    unfolding resized body_of
    body_told e =
        let n = S.states in
        let first = line_same 83 (row_codes K n S.start) (row_codes K n T.start) _ _ (length_codes n S.start ∙ sym (length_codes n T.start)) (codes_few n S.start) (codes_few n T.start) (e ∙ body_resized) in
        let middle = joined_parts (λ a. flat_map (matrix_line K S a) (range_with_len 0 n)) (λ a. flat_map (matrix_line K resized a) (range_with_len 0 n)) 1 S.letters _ _ (λ a l u. length_matrix S hs a (omega (arith, hs.letters)) ∙ sym (length_matrix resized hs a (omega (arith, hs.letters)))) first.1 in
        let last = line_same 69 (row_codes K n S.end) (row_codes K n T.end) _ _ (length_codes n S.end ∙ sym (length_codes n T.end)) (codes_few n S.end) (codes_few n T.end) middle.1 in
        record {
          states = nn;
          letters = kk;
          start = codes_agree n S.start T.start first.0;
          step = λ a some l i h.
              let few : a ≤ 6 = omega (arith, hs.letters) in
              let rows = joined_parts (matrix_line K S a) (matrix_line K resized a) 0 n [] [] (λ j u v. length_matrix_line S hs a j few (omega (arith, hs.states)) ∙ sym (length_matrix_line resized hs a j few (omega (arith, hs.states)))) (ap (λ x. x ++ []) (middle.0 a some (omega arith))) in
              let here = line_same 77 (a ∷ (i + 1) ∷ row_codes K n (S.step a i)) (a ∷ (i + 1) ∷ row_codes K n (T.step a i)) [] [] (ap (λ m. suc (suc m)) (length_codes n (S.step a i) ∙ sym (length_codes n (T.step a i)))) (matrix_few S hs a i few (omega (arith, hs.states))) (matrix_few resized hs a i few (omega (arith, hs.states))) (ap (λ x. x ++ []) (rows.0 i (omega arith) (omega arith))) in
              codes_agree n (S.step a i) (T.step a i) (ap (drop 2) here.0);
          end = codes_agree n S.end T.end last.0;
        }

  -- the first line gives the sizes
  pub first_told : (n k m l : ℕ) (x y : List ℕ) → Limits n k → Limits m l → line 84 (n ∷ k ∷ K.q ∷ []) ++ x ≡ line 84 (m ∷ l ∷ K.q ∷ []) ++ y → (n ≡ m) × (k ≡ l) × (x ≡ y)
  first_told n k m l x y s t e =
      let field : K.q < 10 ^ 10 = omega (arith, K.q_high) in
      let r = line_same 84 (n ∷ k ∷ K.q ∷ []) (m ∷ l ∷ K.q ∷ []) x y refl (omega (arith, s.states), (omega (arith, s.letters), (field, tt))) (omega (arith, t.states), (omega (arith, t.letters), (field, tt))) e in
      (ap (λ l. get_or l 0 0) r.0, ap (λ l. get_or l 1 0) r.0, r.1)

  pub told_apart : ToldApart K
  unfolding text_of
  told_apart S T hs ht e =
      let r = first_told S.states S.letters T.states T.letters (body_of K S) (body_of K T) hs ht e in
      body_told S T hs ht r.0 r.1 r.2
