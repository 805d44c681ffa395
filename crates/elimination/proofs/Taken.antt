-- What rows in echelon form leave, where they are taken from a row one after another. Assumes nothing.
use Rattle.std.proofs.Common.{◌≡◌, ℕ, zero, suc, ◌<◌, ◌≤◌, refl, ap, ◌∙◌, arith}
use Rattle.field.specs.FiniteField.{FiniteField}
use Rattle.field.specs.Sums.{less_rows}
use Rattle.field.specs.Rows.{Agree}
use Rattle.series.specs.EliminationProgress.{Echelon}
use Rattle.series.specs.Families.{Of}
use Rattle.series.specs.Spans.{Span}
use Rattle.series.proofs.Bases.{clear_start, clear_step}
use Rattle.series.proofs.SpanLaws.{span_same}
use Rattle.elimination.specs.Elimination.{Remainder}

module _ {V : Type 0} (K : FiniteField V) (d count : ℕ) (q : ℕ → ℕ → V) (p : ℕ → ℕ) (e : Echelon K (λ i. i < d) count q p) (ones : (b : ℕ) → b < count → q b (p b) ≡ K.one) (x : ℕ → V) where
  -- the first n rows, taken one after another
  rows_taken : (n : ℕ) → n ≤ count → Span K (λ i. i < d) (Of count q) (λ i. K.plus (x i) (K.opposite (less_rows K n q p x i))) × ((i : ℕ) → i < n → less_rows K n q p x (p i) ≡ K.zero)
  rows_taken zero h = (clear_start K (λ i. i < d) count q x, λ i l. absurd (omega arith))
  rows_taken (suc n) h =
      let before = rows_taken n (omega arith) in
      let y : ℕ → V = less_rows K n q p x in
      clear_step K (λ i. i < d) count q p e n (omega arith) x y (less_rows K (suc n) q p x) (y (p n)) before.0 before.1
      (ap (K.times (y (p n))) (ones n (omega arith)) ∙ K.times_one (y (p n)))
      (λ j l. refl)

  pub taken_remainder : (y : ℕ → V) → Agree d y (less_rows K count q p x) → Remainder K d count q p x y
  taken_remainder y a =
      let all = rows_taken count (omega arith) in
      record {
        taken = span_same K (λ i. i < d) (λ i. K.plus (x i) (K.opposite (y i))) (λ i h. ap (λ v. K.plus (x i) (K.opposite v)) (a i h)) all.0;
        cleared = λ i l. a (p i) (e.within i l) ∙ all.1 i l;
      }
