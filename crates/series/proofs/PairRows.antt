-- The rows of two tables side by side, one letter further, and their outcomes. Assumes nothing.
use Rattle.std.proofs.Common.{◌≡◌, ℕ, ◌+◌, ◌<◌, [], ◌∷◌, ◌++◌, sym, ap, ◌∙◌, arith}
use Rattle.field.specs.FiniteField.{FiniteField}
use Rattle.field.specs.Rows.{Agree}
use Rattle.field.specs.Sums.{dot, move}
use Rattle.series.specs.Words.{Word}
use Rattle.series.specs.Tables.{Table, row, weight, pair, right_part, pair_step, left_outcome, right_outcome}
use Rattle.series.proofs.Places.{both_parts, beside_left, beside_right}
use Rattle.series.proofs.LinearMaps.{Linear, beside_linear, linear_linear, places_linear}
use Rattle.series.proofs.Weights.{row_push, dot_linear, move_linear}

module _ {V : Type 0} (K : FiniteField V) (S T : Table V) where
  abbrev Place : ℕ → Type 0
  Place i = i < S.states + T.states

  front_linear : Linear K Place (λ i. i < S.states) (λ x. x)
  front_linear = places_linear K Place (λ i. i < S.states) (λ i. i) (λ j q. omega arith)

  back_linear : Linear K Place (λ i. i < T.states) (right_part K S T)
  back_linear = places_linear K Place (λ i. i < T.states) (λ i. S.states + i) (λ j q. omega arith)

  pub step_linear : (a : ℕ) → Linear K Place Place (pair_step K S T a)
  step_linear a = beside_linear K Place S.states T.states (move K S.states (S.step a)) (λ x. move K T.states (T.step a) (right_part K S T x))
      (linear_linear K (λ x. x) (move K S.states (S.step a)) front_linear (move_linear K (λ i. i < S.states) S.states (S.step a)))
      (linear_linear K (right_part K S T) (move K T.states (T.step a)) back_linear (move_linear K (λ i. i < T.states) T.states (T.step a)))

  pub left_linear : Linear K Place (λ (i : Unit {0}). Unit {0}) (λ x j. left_outcome K S T x)
  left_linear = linear_linear K (λ x. x) (λ x j. dot K S.states x S.end) front_linear (dot_linear K (λ i. Unit {0}) S.states (λ j. S.end))

  pub right_linear : Linear K Place (λ (i : Unit {0}). Unit {0}) (λ x j. right_outcome K S T x)
  right_linear = linear_linear K (right_part K S T) (λ x j. dot K T.states x T.end) back_linear (dot_linear K (λ i. Unit {0}) T.states (λ j. T.end))

  -- rows that agree have agreeing steps and outcomes
  pub step_same : (a : ℕ) {x y : ℕ → V} → Agree (S.states + T.states) x y → Agree (S.states + T.states) (pair_step K S T a x) (pair_step K S T a y)
  step_same a {x} {y} e = (step_linear a).same x y e

  pub left_same : {x y : ℕ → V} → Agree (S.states + T.states) x y → left_outcome K S T x ≡ left_outcome K S T y
  left_same {x} {y} e = left_linear.same x y e tt tt

  pub right_same : {x y : ℕ → V} → Agree (S.states + T.states) x y → right_outcome K S T x ≡ right_outcome K S T y
  right_same {x} {y} e = right_linear.same x y e tt tt

  -- the pair row of a word and one letter more
  pub pair_push : (w : Word) (a : ℕ) → Agree (S.states + T.states) (pair K S T (w ++ a ∷ [])) (pair_step K S T a (pair K S T w))
  pair_push w a = both_parts S.states T.states (λ i. pair K S T (w ++ a ∷ []) i ≡ pair_step K S T a (pair K S T w) i)
      (λ i l. beside_left S.states (row K S (w ++ a ∷ [])) (row K T (w ++ a ∷ [])) i l ∙ ap (λ x. x i) (row_push K S w a)
      ∙ (move_linear K (λ j. j < S.states) S.states (S.step a)).same (row K S w) (pair K S T w) (λ j h. sym (beside_left S.states (row K S w) (row K T w) j h)) i l
      ∙ sym (beside_left S.states (move K S.states (S.step a) (pair K S T w)) (move K T.states (T.step a) (right_part K S T (pair K S T w))) i l))
      (λ i l. beside_right S.states (row K S (w ++ a ∷ [])) (row K T (w ++ a ∷ [])) i ∙ ap (λ x. x i) (row_push K T w a)
      ∙ (move_linear K (λ j. j < T.states) T.states (T.step a)).same (row K T w) (right_part K S T (pair K S T w)) (λ j h. sym (beside_right S.states (row K S w) (row K T w) j)) i l
      ∙ sym (beside_right S.states (move K S.states (S.step a) (pair K S T w)) (move K T.states (T.step a) (right_part K S T (pair K S T w))) i))

  -- the outcomes of a word's pair row
  pub left_weighs : (w : Word) → left_outcome K S T (pair K S T w) ≡ weight K S w
  left_weighs w = (dot_linear K (λ (i : Unit {0}). Unit {0}) S.states (λ j. S.end)).same (pair K S T w) (row K S w) (λ i l. beside_left S.states (row K S w) (row K T w) i l) tt tt

  pub right_weighs : (w : Word) → right_outcome K S T (pair K S T w) ≡ weight K T w
  right_weighs w = (dot_linear K (λ (i : Unit {0}). Unit {0}) T.states (λ j. T.end)).same (right_part K S T (pair K S T w)) (row K T w) (λ i l. beside_right S.states (row K S w) (row K T w) i) tt tt
