-- What the walk comes to: the reduced form, and what follows of it. Assumes nothing.
use Rattle.std.proofs.Common.{◌≡◌, ℕ, List, sym, refl, ◌∙◌, arith}
use Rattle.field.specs.FiniteField.{FiniteField}
use Rattle.series.specs.Reducing.{Reduced}
use Rattle.series.specs.Tables.{Table, weight, SameTable}
use Rattle.series.proofs.Projections.{reduced_from}
use Rattle.series.proofs.ReducedForms.{reduced_weight, reduced_least}
use Rattle.field.specs.Rows.{row_at}
use Rattle.rows.specs.Layout.{table_at}
use Rattle.field.proofs.Rows.{dot_same}
use Rattle.reduction.specs.Promises.{SameWeights, Least, AllZero}
use Rattle.spanning.specs.Places.{coefficients_at}
use Rattle.spanning.specs.Views.{columns_of}
use Rattle.leading.specs.declared.view.View.{View}
use Rattle.leading.specs.Forward.{viewed, sight, Finished}
use Rattle.reduction.specs.Result.{form_of}
use Rattle.leading.proofs.UnitRows.{unit_other}
use Rattle.leading.proofs.TrackedRows.{mix_same}

-- a table with the numbers that the walk leaves is the reduced form
pub reduced_written : {F V : Type 0} (K : FiniteField V) (v : F → V) (view : View F) (n base : ℕ) (rs ks ys : List F) → let T = viewed K v view in Finished K v view n rs ks
    → SameTable (table_at K v ys base n T.letters) (form_of K v T n rs ks) → Reduced K T.letters (weight K T) (table_at K v ys base n T.letters)
reduced_written K v view n base rs ks ys f same =
    let T = viewed K v view in
    let p = f.2 in
    let R = table_at K v ys base n T.letters in
    reduced_from K T T.letters view.count (columns_of K v view.columns.now) p.held.spanned R refl p.words (p.done refl)
    (λ l. same.start 0 l)
    (λ i l h. same.start i h ∙ unit_other K 0 i (omega arith))
    (λ a o i l q h. (p.past i a l o.0 o.1).made q h
    ∙ mix_same K n (row_at K v ks (coefficients_at i a)) (R.step a i) (λ j. sight K v view (p.words j)) (λ j. sight K v view (p.words j)) q (λ j g. sym (same.step a o.0 o.1 i l j g)) (λ j g. refl))
    (λ i l. same.end i l ∙ dot_same K T.states (p.held.rows i l) (λ j g. refl))

module _ {V : Type 0} (K : FiniteField V) (T R : Table V) (r : Reduced K T.letters (weight K T) R) where
  pub reduced_weighs : SameWeights K T R
  reduced_weighs = reduced_weight K T.letters (weight K T) R r

  pub reduced_smallest : Least K T R
  reduced_smallest = reduced_least K T.letters (weight K T) R r

  -- a table without states weighs zero
  pub reduced_none : AllZero K T → R.states ≡ 0
  reduced_none z = let l = reduced_smallest (record { states = 0; letters = T.letters; start = T.start; step = T.step; end = T.end }) (λ w o. sym (z w o)) in omega arith
