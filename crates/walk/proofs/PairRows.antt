-- Rows of two tables side by side. Assumes nothing.
use Rattle.std.proofs.Common.{◌≡◌, ℕ, ◌+◌, ◌*◌, List, [], ◌∷◌, ◌++◌, length, take, drop, sym, refl, ap, ap₂, ◌∙◌, arith, length-append}
use Rattle.std.proofs.lemmas.List.{take-append-drop}
use Rattle.field.specs.FiniteField.{FiniteField}
use Rattle.field.specs.Sums.{dot, move}
use Rattle.field.specs.Rows.{Agree, at, square_at, RowOf}
use Rattle.series.specs.Tables.{Table, weight, beside, pair, right_part, pair_step, left_outcome, right_outcome}
use Rattle.series.specs.Words.{Word}
use Rattle.series.proofs.PairRows.{step_same, left_same, right_same, pair_push, left_weighs, right_weighs}
use Rattle.series.proofs.Places.{both_parts, beside_left, beside_right}
use Rattle.rows.specs.Seen.{SquareOf}
use Rattle.walk.specs.Pairs.{Unlike}
use Rattle.field.proofs.Rows.{dot_same}
use Rattle.rows.proofs.Splits.{at_first, at_second}

-- what split_at returns are the parts
pub split_parts : {F : Type 0} (xs front back : List F) (n : ℕ) → front ≡ take n xs → back ≡ drop n xs → xs ≡ front ++ back
split_parts xs front back n e d = sym (ap₂ (λ p q. p ++ q) e d ∙ take-append-drop n xs)

-- a slice that is written in two parts
pub beside_written : {F V : Type 0} (K : FiniteField V) (v : F → V) (n m : ℕ) (x y : ℕ → V) (xs left right : List F) → xs ≡ left ++ right → RowOf K v n x left → RowOf K v m y right → RowOf K v (n + m) (beside n x y) xs
beside_written K v n m x y xs left right parts l r =
    record {
      len = ap length parts ∙ length-append left right ∙ ap₂ (λ a b. a + b) l.len r.len;
      same =
          both_parts n m (λ i. at K v xs i ≡ beside n x y i)
          (λ i h. sym (at_first K v xs left right n parts l.len i h) ∙ l.same i h ∙ sym (beside_left n x y i h))
          (λ i h. sym (at_second K v xs left right n parts l.len i) ∙ r.same i h ∙ sym (beside_right n x y i));
    }

-- a row in a slice, split in its two parts
module _ {F V : Type 0} (K : FiniteField V) (v : F → V) (S T : Table V) (xs left right : List F) (parts : xs ≡ left ++ right) (long : length left ≡ S.states) where
  left_part : Agree S.states (at K v left) (at K v xs)
  left_part i l = at_first K v xs left right S.states parts long i l

  back_part : Agree T.states (at K v right) (right_part K S T (at K v xs))
  back_part i l = at_second K v xs left right S.states parts long i

  -- each part times the end column of its table
  pub left_result : (end : List F) → RowOf K v S.states S.end end → dot K (length left) (at K v left) (λ i. at K v end (0 + i * 1)) ≡ left_outcome K S T (at K v xs)
  left_result end d = ap (λ n. dot K n (at K v left) (λ i. at K v end (0 + i * 1))) long ∙ dot_same K S.states left_part (λ i l. ap (at K v end) (omega arith) ∙ d.same i l)

  pub right_result : length right ≡ T.states → (end : List F) → RowOf K v T.states T.end end → dot K (length right) (at K v right) (λ i. at K v end (0 + i * 1)) ≡ right_outcome K S T (at K v xs)
  right_result h end d = ap (λ n. dot K n (at K v right) (λ i. at K v end (0 + i * 1))) h ∙ dot_same K T.states back_part (λ i l. ap (at K v end) (omega arith) ∙ d.same i l)

  -- each part times the matrix of a letter
  left_moved : (a : ℕ) (m to : List F) → SquareOf K v S.states (S.step a) m → RowOf K v (length left) (move K (length left) (square_at K v m 0 (length left)) (at K v left)) to → RowOf K v S.states (move K S.states (S.step a) (at K v xs)) to
  left_moved a m to s w =
      let w' : RowOf K v S.states (move K S.states (square_at K v m 0 S.states) (at K v left)) to = rw long at w in
      record { len = w'.len; same = λ j l. w'.same j l ∙ dot_same K S.states left_part (λ i h. s.same i h j l) }

  right_moved : length right ≡ T.states → (a : ℕ) (m to : List F) → SquareOf K v T.states (T.step a) m → RowOf K v (length right) (move K (length right) (square_at K v m 0 (length right)) (at K v right)) to → RowOf K v T.states (move K T.states (T.step a) (right_part K S T (at K v xs))) to
  right_moved h a m to s w =
      let w' : RowOf K v T.states (move K T.states (square_at K v m 0 T.states) (at K v right)) to = rw h at w in
      record { len = w'.len; same = λ j l. w'.same j l ∙ dot_same K T.states back_part (λ i g. s.same i g j l) }

  pub stepped : (h : length right ≡ T.states) (a : ℕ) (m n to_left to_right : List F) → SquareOf K v S.states (S.step a) m → SquareOf K v T.states (T.step a) n
      → RowOf K v (length left) (move K (length left) (square_at K v m 0 (length left)) (at K v left)) to_left
      → RowOf K v (length right) (move K (length right) (square_at K v n 0 (length right)) (at K v right)) to_right
      → RowOf K v (S.states + T.states) (pair_step K S T a (at K v xs)) (to_left ++ to_right)
  stepped h a m n to_left to_right s t l r =
      beside_written K v S.states T.states (move K S.states (S.step a) (at K v xs)) (move K T.states (T.step a) (right_part K S T (at K v xs))) (to_left ++ to_right) to_left to_right refl
      (left_moved a m to_left s l) (right_moved h a n to_right t r)

-- a row that is the pair row of a word
module _ {F V : Type 0} (K : FiniteField V) (v : F → V) (S T : Table V) (u : Word) (xs : List F) (e : Agree (S.states + T.states) (at K v xs) (pair K S T u)) where
  -- is one letter further that of the longer word
  pub longer_word : (a : ℕ) (ys : List F) → RowOf K v (S.states + T.states) (pair_step K S T a (at K v xs)) ys → Agree (S.states + T.states) (at K v ys) (pair K S T (u ++ a ∷ []))
  longer_word a ys r i l = r.same i l ∙ step_same K S T a e i l ∙ sym (pair_push K S T u a i l)

  left_is_weight : left_outcome K S T (at K v xs) ≡ weight K S u
  left_is_weight = left_same K S T e ∙ left_weighs K S T u

  right_is_weight : right_outcome K S T (at K v xs) ≡ weight K T u
  right_is_weight = right_same K S T e ∙ right_weighs K S T u

  -- has its weights as outcomes
  pub weighs_same : left_outcome K S T (at K v xs) ≡ right_outcome K S T (at K v xs) → weight K S u ≡ weight K T u
  weighs_same d = sym left_is_weight ∙ d ∙ right_is_weight

  pub weighs_unlike : {left right : ℕ} → Unlike K (left_outcome K S T (at K v xs)) (right_outcome K S T (at K v xs)) left right → Unlike K (weight K S u) (weight K T u) left right
  weighs_unlike d =
      record {
        differs = λ z. d.differs (left_is_weight ∙ z ∙ sym right_is_weight);
        left_is = d.left_is ∙ ap K.code left_is_weight;
        right_is = d.right_is ∙ ap K.code right_is_weight;
      }
