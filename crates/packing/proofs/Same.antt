-- A table that agrees number for number with a reduced form is one. Assumes nothing.
use Rattle.std.proofs.Common.{◌≡◌, ℕ, ◌<◌, ◌∷◌, [], sym, ap, ◌∙◌, subst, arith}
use Rattle.field.specs.FiniteField.{FiniteField}
use Rattle.series.specs.Words.{Word, Over}
use Rattle.series.specs.Listing.{Listed}
use Rattle.series.specs.Families.{mix}
use Rattle.series.specs.Tables.{Table, SameTable}
use Rattle.series.specs.Reducing.{residual, Leading, Reduced}
use Rattle.field.proofs.Rows.{sum_same}

module _ {V : Type 0} (K : FiniteField V) where
  pub reduced_table : (k : ℕ) (f : Word → V) (R S : Table V) → SameTable R S → Reduced K k f R → Reduced K k f S
  reduced_table k f R S h c = record {
    letters = sym h.letters ∙ c.letters;
    words = c.words;
    listed = subst (λ n. Listed (Leading K k f) n c.words) h.states c.listed;
    start_one = λ l. sym (h.start 0 (omega (arith, h.states))) ∙ c.start_one (omega (arith, h.states));
    start_zero = λ i l m. sym (h.start i (omega (arith, h.states))) ∙ c.start_zero i l (omega (arith, h.states));
    steps = λ a o i l u p. c.steps a o i (omega (arith, h.states)) u p ∙ mixed a o i (omega (arith, h.states)) u;
    ends = λ i l. sym (h.end i (omega (arith, h.states))) ∙ c.ends i (omega (arith, h.states));
  }
    where
      mixed : (a : ℕ) → Over k (a ∷ []) → (i : ℕ) → i < R.states → (u : Word) → mix K R.states (R.step a i) (λ j. residual f (c.words j)) u ≡ mix K S.states (S.step a i) (λ j. residual f (c.words j)) u
      mixed a o i l u = sum_same K R.states (λ j. K.times (R.step a i j) (residual f (c.words j) u)) (λ j. K.times (S.step a i j) (residual f (c.words j) u))
          (λ j m. ap (λ v. K.times v (residual f (c.words j) u)) (h.step a o.0 (omega (arith, o.1, c.letters)) i l j m))
          ∙ ap (λ n. mix K n (S.step a i) (λ j. residual f (c.words j)) u) h.states
