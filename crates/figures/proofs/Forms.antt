-- A table that is its own reduced form is the reduced form of every table that weighs alike. Assumes nothing.
use Rattle.std.proofs.Common.{ℕ, T as Passes, sym, subst}
use Rattle.field.specs.FiniteField.{FiniteField}
use Rattle.series.specs.Words.{Over}
use Rattle.series.specs.Tables.{Table, weight}
use Rattle.series.specs.Reducing.{Reduced}
use Rattle.series.proofs.ReducedForms.{reduced_alike}
use Rattle.figures.specs.Examples.{word_of}
use Rattle.figures.proofs.Computed.{same_codes}
use Rattle.figures.proofs.Comparisons.{KeptTests, all_alike}
use Rattle.figures.proofs.OwnForms.{UnitTests, own_form}

pub form_of : {V : Type 0} (K : FiniteField V) (T R : Table V) (n : ℕ) (at : ℕ → ℕ) (c : ℕ → V) (b : ℕ → ℕ → V) → UnitTests K R b → KeptTests K T R n at c
    → Passes (same_codes K n (λ i. weight K T (word_of i)) (λ i. weight K R (word_of i))) → Reduced K 1 (weight K T) R
form_of K T R n at c b own kept same = reduced_alike K 1 (weight K R) (weight K T) R
    (λ w o. sym (all_alike K T R n at c kept same w (subst (λ k. Over k w) (sym kept.one_letter) o))) (own_form K R b own)
