-- A word read letter by letter: its letters, and the row that it leads to. Assumes nothing.
use Rattle.std.proofs.Common.{ℕ, ◌+◌, ◌<◌, ◌≤◌, [], ◌∷◌, ◌++◌, length, get_or, take, drop, sym, ap, ◌∙◌, subst, arith}
use Rattle.std.proofs.lemmas.List.{take_more, drop_more, take-append-drop, length-take-le}
use Rattle.field.specs.FiniteField.{FiniteField}
use Rattle.series.specs.Words.{Word, Over}
use Rattle.field.specs.Sums.{move}
use Rattle.field.specs.Rows.{Agree}
use Rattle.series.specs.Tables.{Table, row}
use Rattle.series.proofs.Words.{over_append}
use Rattle.series.proofs.Weights.{row_push, move_linear}
use Rattle.rows.specs.Weighing.{FirstOutside}

module _ (k : ℕ) (w : Word) (i : ℕ) (inside : i < length w) (before : Over k (take i w)) where
  pub over_more : 1 ≤ get_or w i 0 → get_or w i 0 ≤ k → Over k (take (i + 1) w)
  over_more low high = subst (Over k) (sym (take_more w i 0 inside)) (over_append k (take i w) (get_or w i 0 ∷ []) before (low, high, tt))

  pub first_outside : ((1 ≤ get_or w i 0) × (get_or w i 0 ≤ k) → ⊥) → FirstOutside k w (i + 1)
  first_outside out = record {
    front = take i w;
    letter = get_or w i 0;
    rest = drop (i + 1) w;
    parts = sym (take-append-drop i w) ∙ ap (λ v. take i w ++ v) (drop_more w i 0 inside);
    good = before;
    outside = out;
    position = ap (λ n. n + 1) (sym (length-take-le i w (omega arith)));
  }

-- the row after one letter more
pub row_more : {V : Type 0} (K : FiniteField V) (T : Table V) (w : Word) (i : ℕ) {r : ℕ → V} → i < length w → Agree T.states r (row K T (take i w))
    → Agree T.states (move K T.states (T.step (get_or w i 0)) r) (row K T (take (i + 1) w))
row_more K T w i {r} l e j h =
    (move_linear K (λ j. j < T.states) T.states (T.step (get_or w i 0))).same r (row K T (take i w)) e j h
    ∙ sym (ap (λ v. row K T v j) (take_more w i 0 l) ∙ ap (λ x. x j) (row_push K T (take i w) (get_or w i 0)))
