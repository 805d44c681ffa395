-- The columns of words. Assumes nothing.
use Rattle.std.proofs.Common.{ℕ, ◌<◌, [], ◌∷◌, ◌∙◌, ap₂}
use Rattle.field.specs.FiniteField.{FiniteField}
use Rattle.series.specs.Spans.{Span}
use Rattle.series.specs.Words.{Word, Over}
use Rattle.field.specs.Sums.{dot}
use Rattle.series.specs.Tables.{Table, column}
use Rattle.series.proofs.LinearMaps.{Linear, span_through}
use Rattle.series.proofs.Weights.{dot_linear, dot_comm}

module _ {V : Type 0} (K : FiniteField V) (T : Table V) (k : ℕ) where
  -- a matrix times a column
  pub act_linear : (a : ℕ) → Linear K (λ i. i < T.states) (λ i. i < T.states) (λ y i. dot K T.states (T.step a i) y)
  act_linear a = let L = dot_linear K (λ (i : ℕ). i < T.states) T.states (T.step a) in record {
    same = λ x y e j q. dot_comm K T.states (T.step a j) x ∙ L.same x y e j q ∙ dot_comm K T.states y (T.step a j);
    zeros = λ j q. dot_comm K T.states (T.step a j) (λ i. K.zero) ∙ L.zeros j q;
    mixes = λ c x z j q. dot_comm K T.states (T.step a j) (λ i. K.plus (K.times c (x i)) (z i)) ∙ L.mixes c x z j q
        ∙ ap₂ (λ u v. K.plus (K.times c u) v) (dot_comm K T.states x (T.step a j)) (dot_comm K T.states z (T.step a j));
  }

  -- columns that span the end, and that a letter does not lead out of, span the column of every word
  pub columns_covered : (S : (ℕ → V) → Type 0) → Span K (λ i. i < T.states) S T.end
      → ((a : ℕ) → Over k (a ∷ []) → (y : ℕ → V) → S y → Span K (λ i. i < T.states) S (λ i. dot K T.states (T.step a i) y)) → (u : Word) → Over k u
      → Span K (λ i. i < T.states) S (column K T u)
  columns_covered S start closed [] o = start
  columns_covered S start closed (a ∷ u) o = span_through K (λ y i. dot K T.states (T.step a i) y) (act_linear a) (closed a (o.0, o.1, tt)) (columns_covered S start closed u o.2)
