-- The weights of the tables that sum, scale, after and turn define. Assumes nothing.
use Rattle.std.proofs.Common.{◌≡◌, ℕ, ◌+◌, ◌<◌, [], ◌∷◌, ◌++◌, reverse, sym, refl, ap, ◌∙◌, ap₂, append_assoc, append-nil, arith}
use mathlib.Core.Path.{fun_ext}
use Rattle.std.proofs.lemmas.List.{reverse-append}
use Rattle.field.specs.FiniteField.{FiniteField}
use Rattle.field.proofs.Laws.{times_zero, zero_plus, ring}
use Rattle.field.specs.Sums.{sum_below, dot, move}
use Rattle.series.specs.Words.{Word}
use Rattle.series.specs.Tables.{Table, after, row, column, weight, beside, pair}
use Rattle.series.specs.Operations.{sum_table, scaled_table, after_table, turned_table}
use Rattle.field.proofs.Rows.{sum_same}
use Rattle.series.proofs.SumLaws.{sum_zero, sum_times, sum_split}
use Rattle.series.proofs.Weights.{weight_append, dot_comm}
use Rattle.series.proofs.Places.{both_parts, beside_left, beside_right}

module _ {V : Type 0} (K : FiniteField V) where
  infixl 65 ◌⊕◌
  infixl 70 ◌⊗◌
  open K use {plus as ◌⊕◌, times as ◌⊗◌, zero as 𝟘}

  pub after_weight : (a : ℕ) (T : Table V) (w : Word) → weight K (after_table K a T) w ≡ weight K T (a ∷ w)
  after_weight a T w = same (move K T.states (T.step a) T.start) w
    where
      same : (x : ℕ → V) (v : Word) → dot K T.states (after K (after_table K a T) x v) T.end ≡ dot K T.states (after K T x v) T.end
      same x [] = refl
      same x (b ∷ v) = same (move K T.states (T.step b) x) v

  scaled_after : (c : V) (T : Table V) (x : ℕ → V) (w : Word) → after K (scaled_table K c T) x w ≡ after K T x w
  scaled_after c T x [] = refl
  scaled_after c T x (a ∷ w) = scaled_after c T (move K T.states (T.step a) x) w

  pub scaled_weight : (c : V) (T : Table V) (w : Word) → weight K (scaled_table K c T) w ≡ c ⊗ weight K T w
  scaled_weight c T w =
      ap (λ x. dot K T.states x (λ i. c ⊗ T.end i)) (scaled_after c T T.start w)
      ∙ sum_same K T.states (λ i. row K T w i ⊗ (c ⊗ T.end i)) (λ i. c ⊗ (row K T w i ⊗ T.end i)) (λ i l. simp (ring, K))
      ∙ sum_times K T.states c (λ i. row K T w i ⊗ T.end i)

  -- the row of the turned table is the column of the word from the end
  turned_row : (T : Table V) (u w : Word) → after K (turned_table K T) (column K T u) w ≡ column K T (reverse w ++ u)
  turned_row T u [] = refl
  turned_row T u (a ∷ w) = ap (λ x. after K (turned_table K T) x w) (fun_ext (λ i. dot_comm K T.states (column K T u) (T.step a i))) ∙ turned_row T (a ∷ u) w
      ∙ ap (column K T) (sym (ap (λ v. v ++ u) (reverse-append (a ∷ []) w) ∙ append_assoc (reverse w) (a ∷ []) u))

  pub turned_weight : (T : Table V) (w : Word) → weight K (turned_table K T) w ≡ weight K T (reverse w)
  turned_weight T w = ap (λ x. dot K T.states x T.start) (turned_row T [] w ∙ ap (column K T) (append-nil (reverse w)))
      ∙ dot_comm K T.states (column K T (reverse w)) T.start ∙ sym (weight_append K T [] (reverse w))

  -- the rows of the sum are the two rows side by side
  sum_move : (S T : Table V) (a : ℕ) (x y z : ℕ → V) → ((i : ℕ) → i < S.states + T.states → z i ≡ beside S.states x y i) → (j : ℕ) → j < S.states + T.states
      → move K (S.states + T.states) ((sum_table K S T).step a) z j ≡ beside S.states (move K S.states (S.step a) x) (move K T.states (T.step a) y) j
  sum_move S T a x y z e = both_parts n m (λ j. move K (n + m) M z j ≡ beside n (move K n (S.step a) x) (move K m (T.step a) y) j)
      (λ j l. halves j ∙ ap₂ ◌⊕◌
      (sum_same K n (λ i. z i ⊗ M i j) (λ i. x i ⊗ S.step a i j) (λ i h. ap₂ ◌⊗◌ (left i h) (ap (λ r. r j) (beside_left n up down i h) ∙ beside_left n (S.step a i) (λ q. 𝟘) j l)))
      (sum_zero K m (λ i. z (n + i) ⊗ M (n + i) j) (λ i h. ap (λ v. z (n + i) ⊗ v) (ap (λ r. r j) (beside_right n up down i) ∙ beside_left n (λ q. 𝟘) (T.step a i) j l) ∙ times_zero K (z (n + i))))
      ∙ K.plus_zero (move K n (S.step a) x j) ∙ sym (beside_left n (move K n (S.step a) x) (move K m (T.step a) y) j l))
      (λ j l. halves (n + j) ∙ ap₂ ◌⊕◌
      (sum_zero K n (λ i. z i ⊗ M i (n + j)) (λ i h. ap (λ v. z i ⊗ v) (ap (λ r. r (n + j)) (beside_left n up down i h) ∙ beside_right n (S.step a i) (λ q. 𝟘) j) ∙ times_zero K (z i)))
      (sum_same K m (λ i. z (n + i) ⊗ M (n + i) (n + j)) (λ i. y i ⊗ T.step a i j)
      (λ i h. ap₂ ◌⊗◌ (right i h) (ap (λ r. r (n + j)) (beside_right n up down i) ∙ beside_right n (λ q. 𝟘) (T.step a i) j)))
      ∙ zero_plus K (move K m (T.step a) y j) ∙ sym (beside_right n (move K n (S.step a) x) (move K m (T.step a) y) j))
    where
      n : ℕ
      n = S.states

      m : ℕ
      m = T.states

      up : ℕ → ℕ → V
      up i = beside S.states (S.step a i) (λ j. 𝟘)

      down : ℕ → ℕ → V
      down i = beside S.states (λ j. 𝟘) (T.step a i)

      M : ℕ → ℕ → V
      M = (sum_table K S T).step a

      left : (i : ℕ) → i < S.states → z i ≡ x i
      left i h = e i (omega arith) ∙ beside_left S.states x y i h

      right : (i : ℕ) → i < T.states → z (S.states + i) ≡ y i
      right i h = e (S.states + i) (omega arith) ∙ beside_right S.states x y i

      halves : (j : ℕ) → move K (S.states + T.states) M z j ≡ sum_below K S.states (λ i. z i ⊗ M i j) ⊕ sum_below K T.states (λ i. z (S.states + i) ⊗ M (S.states + i) j)
      halves j = sum_split K S.states T.states (λ i. z i ⊗ M i j)

  pub sum_after : (S T : Table V) (w : Word) (x y z : ℕ → V) → ((i : ℕ) → i < S.states + T.states → z i ≡ beside S.states x y i) → (j : ℕ) → j < S.states + T.states
      → after K (sum_table K S T) z w j ≡ beside S.states (after K S x w) (after K T y w) j
  sum_after S T [] x y z e = e
  sum_after S T (a ∷ w) x y z e = sum_after S T w (move K S.states (S.step a) x) (move K T.states (T.step a) y)
      (move K (S.states + T.states) ((sum_table K S T).step a) z) (sum_move S T a x y z e)

  pub sum_weight : (S T : Table V) (w : Word) → weight K (sum_table K S T) w ≡ weight K S w ⊕ weight K T w
  sum_weight S T w = sum_split K S.states T.states (λ i. row K (sum_table K S T) w i ⊗ (sum_table K S T).end i) ∙ ap₂ ◌⊕◌
      (sum_same K S.states (λ i. row K (sum_table K S T) w i ⊗ (sum_table K S T).end i) (λ i. row K S w i ⊗ S.end i)
      (λ i l. ap₂ ◌⊗◌ (rows i (omega arith) ∙ beside_left S.states (row K S w) (row K T w) i l) (beside_left S.states S.end T.end i l)))
      (sum_same K T.states (λ i. row K (sum_table K S T) w (S.states + i) ⊗ (sum_table K S T).end (S.states + i)) (λ i. row K T w i ⊗ T.end i)
      (λ i l. ap₂ ◌⊗◌ (rows (S.states + i) (omega arith) ∙ beside_right S.states (row K S w) (row K T w) i) (beside_right S.states S.end T.end i)))
    where
      rows : (j : ℕ) → j < S.states + T.states → row K (sum_table K S T) w j ≡ pair K S T w j
      rows = sum_after S T w S.start T.start (sum_table K S T).start (λ i l. refl)
