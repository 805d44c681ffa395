-- Tables that are their own reduced forms: the rows of their leading words are the unit rows, and every unit column is a combination of columns of words. Assumes nothing.
use Rattle.std.proofs.Common.{◌≡◌, ℕ, ◌<◌, cond, T as Passes, eqb, [], ◌∷◌, ◌++◌, sym, refl, ap, ◌∙◌, arith}
use Rattle.std.proofs.lemmas.Bool.{eq-eqb, ne_eqb}
use Rattle.field.specs.FiniteField.{FiniteField}
use Rattle.field.proofs.Laws.{times_zero}
use Rattle.series.specs.Spans.{Span}
use Rattle.series.specs.Words.{Word, Over}
use Rattle.series.specs.Listing.{Listed}
use Rattle.series.specs.Families.{Of, mix}
use Rattle.series.specs.Fresh.{Fresh}
use Rattle.field.specs.Sums.{dot, move}
use Rattle.series.specs.Tables.{Table, row, column, weight}
use Rattle.series.specs.Projecting.{Columns, Spanning, seen, FreshSeen}
use Rattle.series.specs.Reducing.{Reduced}
use Rattle.series.specs.EliminationProgress.{Echelon}
use Rattle.field.proofs.Rows.{sum_same}
use Rattle.series.proofs.SumLaws.{sum_one}
use Rattle.series.proofs.SpanLaws.{span_same, span_more}
use Rattle.series.proofs.Families.{mix_span}
use Rattle.series.proofs.FreshWords.{fresh_alike, fresh_prefix}
use Rattle.series.proofs.Weights.{dot_comm, dot_agree, row_push, move_linear}
use Rattle.series.proofs.Listings.{listed_same}
use Rattle.series.proofs.Projections.{reduced_from}
use Rattle.figures.specs.Examples.{word_of}
use Rattle.figures.proofs.Computed.{same_rows, same_entries}
use Rattle.figures.proofs.OneLetter.{words_over, fresh_listed}

module _ {V : Type 0} (K : FiniteField V) where
  infixl 70 ◌⊗◌
  open K use {times as ◌⊗◌, zero as 𝟘, one as 𝟙}

  -- one at i and zero elsewhere
  abbrev pub unit : ℕ → ℕ → V
  unit i j = cond (eqb i j) 𝟙 𝟘

  unit_here : (i : ℕ) → unit i i ≡ 𝟙
  unit_here i = ap (λ b. cond b 𝟙 𝟘) (eq-eqb i i refl)

  unit_elsewhere : (i j : ℕ) → (i ≡ j → ⊥) → unit i j ≡ 𝟘
  unit_elsewhere i j u = ap (λ b. cond b 𝟙 𝟘) (ne_eqb i j u)

  -- a row times a unit column, and a combination of unit rows
  dot_unit : (n : ℕ) (x : ℕ → V) (i : ℕ) → i < n → dot K n x (unit i) ≡ x i
  dot_unit n x i l = sum_one K n i (λ j. x j ⊗ unit i j) l (λ j b u. ap (λ v. x j ⊗ v) (unit_elsewhere i j (λ e. u (sym e))) ∙ times_zero K (x j))
      ∙ ap (λ v. x i ⊗ v) (unit_here i) ∙ K.times_one (x i)

  mix_unit : (n : ℕ) (c : ℕ → V) (j : ℕ) → j < n → mix K n c unit j ≡ c j
  mix_unit n c j l = sum_one K n j (λ i. c i ⊗ unit i j) l (λ i b u. ap (λ v. c i ⊗ v) (unit_elsewhere i j u) ∙ times_zero K (c i))
      ∙ ap (λ v. c j ⊗ v) (unit_here j) ∙ K.times_one (c j)

module _ {V : Type 0} (K : FiniteField V) (R : Table V) (k : ℕ) (letters : R.letters ≡ k) (words : ℕ → Word) (first : words 0 ≡ [])
    (units : (i : ℕ) → i < R.states → (j : ℕ) → j < R.states → row K R (words i) j ≡ unit K i j)
    (listed : Listed (Fresh K (λ i. i < R.states) k (row K R)) R.states words)
    (observed : (i : ℕ) → i < R.states → Span K (λ j. j < R.states) (Columns K R k) (unit K i)) where
  infixl 70 ◌⊗◌
  open K use {times as ◌⊗◌}

  abbrev Place : ℕ → Type 0
  Place i = i < R.states

  spanning : Spanning K R k R.states (unit K)
  spanning = record {
    covers = λ u o. span_same K Place (column K R u) (λ j l. sym (mix_unit K R.states (column K R u) j l)) (mix_span K Place R.states (column K R u) (unit K));
    covered = observed;
  }

  -- in the view through unit columns a row is itself
  row_seen : (w : Word) → Over k w → (i : ℕ) → Place i → row K R w i ≡ seen K R k R.states (unit K) w i
  row_seen w o i l = sym (dot_unit K R.states (row K R w) i l)

  seen_row : (w : Word) → Over k w → (i : ℕ) → Place i → seen K R k R.states (unit K) w i ≡ row K R w i
  seen_row w o i l = dot_unit K R.states (row K R w) i l

  -- the row of a listed word times a column
  at_word : (i : ℕ) → i < R.states → (y : ℕ → V) → dot K R.states (row K R (words i)) y ≡ y i
  at_word i l y = dot_agree K R.states (row K R (words i)) (unit K i) y y (units i l) (λ j b. refl) ∙ dot_comm K R.states (unit K i) y ∙ dot_unit K R.states y i l

  starts : (i : ℕ) → 0 < R.states → i < R.states → R.start i ≡ unit K 0 i
  starts i h l = ap (λ w. row K R w i) (sym first) ∙ units 0 h i l

  steps : (a : ℕ) → Over k (a ∷ []) → (m : ℕ) → m < R.states → (i : ℕ) → i < R.states
      → seen K R k R.states (unit K) (words m ++ a ∷ []) i ≡ mix K R.states (R.step a m) (λ j. seen K R k R.states (unit K) (words j)) i
  steps a o m l i b =
      dot_unit K R.states (row K R (words m ++ a ∷ [])) i b ∙ ap (λ x. x i) (row_push K R (words m) a) ∙ at_word m l (λ j. R.step a j i)
      ∙ sym (sum_same K R.states (λ j. R.step a m j ⊗ seen K R k R.states (unit K) (words j) i) (λ j. R.step a m j ⊗ unit K j i)
      (λ j h. ap (λ v. R.step a m j ⊗ v) (dot_unit K R.states (row K R (words j)) i b ∙ units j h i b)) ∙ mix_unit K R.states (R.step a m) i b)

  pub own_reduced : Reduced K k (weight K R) R
  own_reduced = reduced_from K R k R.states (unit K) spanning R letters words
      (listed_same (Fresh K Place k (row K R)) (FreshSeen K R k R.states (unit K)) (fresh_alike K Place k (row K R) (seen K R k R.states (unit K)) row_seen)
      (fresh_alike K Place k (seen K R k R.states (unit K)) (row K R) seen_row) listed)
      (λ h. starts 0 h h ∙ unit_here K 0) (λ i p l. starts i (omega arith) l ∙ unit_elsewhere K 0 i (λ e. omega arith)) steps (λ i l. sym (at_word i l R.end))

-- one letter: the rows of the first words are the unit rows, and the unit columns are combinations, by the coefficients b, of the columns of these words
pub record UnitTests {V : Type 0} (K : FiniteField V) (R : Table V) (b : ℕ → ℕ → V) : Type 0 where
  pub one_letter : R.letters ≡ 1
  pub reached : Passes (same_rows K R.states (λ i. R.states) (λ i. row K R (word_of i)) (unit K))
  pub told_apart : Passes (same_rows K R.states (λ i. R.states) (unit K) (λ i. mix K R.states (b i) (λ m. column K R (word_of m))))

module _ {V : Type 0} (K : FiniteField V) (R : Table V) (b : ℕ → ℕ → V) (tests : UnitTests K R b) where
  infixl 70 ◌⊗◌
  open K use {times as ◌⊗◌}

  abbrev Inside : ℕ → Type 0
  Inside i = i < R.states

  units : (i : ℕ) → i < R.states → (j : ℕ) → j < R.states → row K R (word_of i) j ≡ unit K i j
  units = same_entries K R.states (λ i. R.states) (λ i. row K R (word_of i)) (unit K) tests.reached

  stairs : Echelon K Inside R.states (λ i. row K R (word_of i)) (λ i. i)
  stairs = record {
    within = λ i l. l;
    apart = λ i l e. K.one_not_zero (sym (units i l i l ∙ unit_here K i) ∙ e);
    clear = λ i j l h. units j h i (omega arith) ∙ unit_elsewhere K j i (λ e. omega arith);
  }

  combined : (x : ℕ → V) → Span K Inside (Of R.states (λ i. row K R (word_of i))) x
  combined x = span_same K Inside x (λ j l. sym (sum_same K R.states (λ i. x i ⊗ row K R (word_of i) j) (λ i. x i ⊗ unit K i j) (λ i h. ap (λ v. x i ⊗ v) (units i h j l))
      ∙ mix_unit K R.states x j l)) (mix_span K Inside R.states x (λ i. row K R (word_of i)))

  rows_listed : Listed (Fresh K Inside 1 (row K R)) R.states word_of
  rows_listed = fresh_listed K Inside 1 refl (row K R)
      (fresh_prefix K Inside 1 (row K R) (λ a. move K R.states (R.step a)) (λ a o. move_linear K Inside R.states (R.step a)) (λ w a i q. ap (λ x. x i) (row_push K R w a)))
      R.states (λ i. i) stairs (combined (row K R (word_of R.states)))

  observed : (i : ℕ) → i < R.states → Span K Inside (Columns K R 1) (unit K i)
  observed i l = span_same K Inside (unit K i)
      (same_entries K R.states (λ j. R.states) (unit K) (λ j. mix K R.states (b j) (λ m. column K R (word_of m))) tests.told_apart i l)
      (span_more K Inside (λ x m. (word_of m.0, words_over 1 refl m.0, m.2)) (mix_span K Inside R.states (b i) (λ m. column K R (word_of m))))

  pub own_form : Reduced K 1 (weight K R) R
  own_form = own_reduced K R 1 tests.one_letter word_of refl units rows_listed observed
