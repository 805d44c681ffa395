-- Laws of rows, columns and weights. Assumes nothing.
use Rattle.std.proofs.Common.{◌≡◌, ℕ, ◌<◌, [], ◌∷◌, ◌++◌, sym, refl, ap, ◌∙◌, ap₂}
use Rattle.field.specs.FiniteField.{FiniteField}
use Rattle.field.proofs.Laws.{zero_times, ring}
use Rattle.field.specs.Sums.{sum_below, dot, move}
use Rattle.series.specs.Words.{Word, Over}
use Rattle.field.specs.Rows.{Agree}
use Rattle.series.specs.Tables.{Table, after, row, column, weight, SameTable}
use Rattle.field.proofs.Rows.{sum_same}
use Rattle.series.proofs.SumLaws.{sum_zero, sum_plus, sum_times, sum_swap}
use Rattle.series.proofs.LinearMaps.{Linear}

module _ {V : Type 0} (K : FiniteField V) where
  infixl 65 ◌⊕◌
  infixl 70 ◌⊗◌
  open K use {plus as ◌⊕◌, times as ◌⊗◌, zero as 𝟘}

  pub dot_comm : (n : ℕ) (x y : ℕ → V) → dot K n x y ≡ dot K n y x
  dot_comm n x y = sum_same K n (λ i. x i ⊗ y i) (λ i. y i ⊗ x i) (λ i l. K.times_comm (x i) (y i))

  -- sums of products in two ways
  pub dot_move : (n : ℕ) (m : ℕ → ℕ → V) (x y : ℕ → V) → dot K n (move K n m x) y ≡ dot K n x (λ i. dot K n (m i) y)
  dot_move n m x y =
      sum_same K n (λ j. sum_below K n (λ i. x i ⊗ m i j) ⊗ y j) (λ j. sum_below K n (λ i. x i ⊗ (m i j ⊗ y j)))
      (λ j l. K.times_comm (sum_below K n (λ i. x i ⊗ m i j)) (y j) ∙ sym (sum_times K n (y j) (λ i. x i ⊗ m i j))
      ∙ sum_same K n (λ i. y j ⊗ (x i ⊗ m i j)) (λ i. x i ⊗ (m i j ⊗ y j)) (λ i h. simp (ring, K)))
      ∙ sum_swap K n n (λ j i. x i ⊗ (m i j ⊗ y j))
      ∙ sum_same K n (λ i. sum_below K n (λ j. x i ⊗ (m i j ⊗ y j))) (λ i. x i ⊗ dot K n (m i) y) (λ i l. sum_times K n (x i) (λ j. m i j ⊗ y j))

  module _ (T : Table V) where
    pub after_append : (x : ℕ → V) (u v : Word) → after K T x (u ++ v) ≡ after K T (after K T x u) v
    after_append x [] v = refl
    after_append x (a ∷ u) v = after_append (move K T.states (T.step a) x) u v

    pub after_column : (x : ℕ → V) (v : Word) → dot K T.states (after K T x v) T.end ≡ dot K T.states x (column K T v)
    after_column x [] = refl
    after_column x (a ∷ v) = after_column (move K T.states (T.step a) x) v ∙ dot_move T.states (T.step a) x (column K T v)

    -- a word in two parts
    pub weight_append : (u v : Word) → weight K T (u ++ v) ≡ dot K T.states (row K T u) (column K T v)
    weight_append u v = ap (λ x. dot K T.states x T.end) (after_append T.start u v) ∙ after_column (row K T u) v

    pub row_push : (w : Word) (a : ℕ) → row K T (w ++ a ∷ []) ≡ move K T.states (T.step a) (row K T w)
    row_push w a = after_append T.start w (a ∷ [])

  pub dot_linear : {Y : Type 0} (Q : Y → Type 0) (n : ℕ) (y : Y → ℕ → V) → Linear K (λ i. i < n) Q (λ x j. dot K n x (y j))
  dot_linear Q n y = record {
    same = λ x z e j q. sum_same K n (λ i. x i ⊗ y j i) (λ i. z i ⊗ y j i) (λ i l. ap (λ v. v ⊗ y j i) (e i l));
    zeros = λ j q. sum_zero K n (λ i. 𝟘 ⊗ y j i) (λ i l. zero_times K (y j i));
    mixes = λ c x z j q. sum_same K n (λ i. (c ⊗ x i ⊕ z i) ⊗ y j i) (λ i. c ⊗ (x i ⊗ y j i) ⊕ z i ⊗ y j i) (λ i l. simp (ring, K))
        ∙ sum_plus K n (λ i. c ⊗ (x i ⊗ y j i)) (λ i. z i ⊗ y j i) ∙ ap (λ v. v ⊕ dot K n z (y j)) (sum_times K n c (λ i. x i ⊗ y j i));
  }

  pub move_linear : (Q : ℕ → Type 0) (n : ℕ) (m : ℕ → ℕ → V) → Linear K (λ i. i < n) Q (move K n m)
  move_linear Q n m = dot_linear Q n (λ j i. m i j)

  pub dot_agree : (n : ℕ) (x x' y y' : ℕ → V) → Agree n x x' → Agree n y y' → dot K n x y ≡ dot K n x' y'
  dot_agree n x x' y y' e f = sum_same K n (λ i. x i ⊗ y i) (λ i. x' i ⊗ y' i) (λ i l. ap₂ ◌⊗◌ (e i l) (f i l))

  -- tables that agree number for number weigh every word over their letters alike
  module _ (S T : Table V) (same : SameTable S T) where
    pub same_after : (x y : ℕ → V) → Agree S.states x y → (w : Word) → Over S.letters w → Agree S.states (after K S x w) (after K T y w)
    same_after x y e [] o = e
    same_after x y e (a ∷ w) o = same_after (move K S.states (S.step a) x) (move K T.states (T.step a) y) moved w o.2
      where
        moved : Agree S.states (move K S.states (S.step a) x) (move K T.states (T.step a) y)
        moved j l = dot_agree S.states x y (λ i. S.step a i j) (λ i. T.step a i j) e (λ i h. same.step a o.0 o.1 i h j l) ∙ ap (λ n. move K n (T.step a) y j) same.states

    pub same_weight : (w : Word) → Over S.letters w → weight K S w ≡ weight K T w
    same_weight w o = dot_agree S.states (row K S w) (row K T w) S.end T.end (same_after S.start T.start same.start w o) same.end
        ∙ ap (λ n. dot K n (row K T w) T.end) same.states
