-- The figures, from tests that the checker computes at the numbers that the contract gives. Assumes nothing.
use Rattle.std.proofs.Common.{◌≡◌, ℕ, ◌+◌, T as Passes, ltb, ◌≢◌, List, [], ◌∷◌, map, get_or, sym, refl, ap, ◌∙◌, arith, lit<, lit≤}
use Rattle.std.specs.Fmt.{digits}
use Rattle.field.specs.Below.{Below, same_below}
use Rattle.field.proofs.Laws.{inverse_only}
use Rattle.byte.specs.Product.{product}
use Rattle.byte.specs.Bytes.{bytes}
use Rattle.series.specs.Tables.{Table, weight}
use Rattle.series.specs.Operations.{product_table}
use Rattle.columns.specs.Numbers.{number}
use Rattle.text.specs.Texts.{body_of, text_of}
use Rattle.residue.specs.Delivered.{fermat}
use Rattle.figures.specs.Examples.{of_codes, fibonacci_with, fibonacci, multiplier, word_of}
use Rattle.figures.specs.Figures.{WorkedFigures}
use Rattle.figures.proofs.Computed.{same_codes}
use Rattle.figures.proofs.Comparisons.{KeptTests, says_alike, says_different}
use Rattle.figures.proofs.OwnForms.{UnitTests, own_form}
use Rattle.figures.proofs.Forms.{form_of}

-- numbers by their codes
abbrev numbers : List ℕ → ℕ → Below 65537
numbers cs i = fermat.decode (get_or cs i 0)

abbrev rows : List (List ℕ) → ℕ → ℕ → Below 65537
rows cs i = numbers (get_or cs i [])

-- the Fibonacci table multiplied by itself, and the table of three states with this last row
abbrev square : Table (Below 65537)
square = product_table fermat fibonacci fibonacci

abbrev packed : List ℕ → Table (Below 65537)
packed row = of_codes (1 ∷ 0 ∷ 0 ∷ []) ((0 ∷ 1 ∷ 0 ∷ []) ∷ (0 ∷ 0 ∷ 1 ∷ []) ∷ row ∷ []) (0 ∷ 1 ∷ 1 ∷ [])

-- by these coefficients the unit columns are combinations of the columns of the words of 0 to 2 letters
abbrev packed_units : ℕ → ℕ → Below 65537
packed_units = rows ((32772 ∷ 32771 ∷ 32767 ∷ []) ∷ (32771 ∷ 32769 ∷ 32768 ∷ []) ∷ (32767 ∷ 32768 ∷ 32769 ∷ []) ∷ [])

-- what has the product one with 2 is its inverse
half_is : (half : ℕ) → fermat.code (fermat.times (fermat.decode 2) (fermat.decode half)) ≡ 1 → Passes (ltb half 65537)
    → fermat.code (fermat.inverse (fermat.decode 2)) ≡ half
half_is half e l = ap (λ x. x.n) (sym (inverse_only fermat (fermat.decode 2) (fermat.decode half) (same_below (fermat.times (fermat.decode 2) (fermat.decode half)) fermat.one e))) ∙ fermat.code_decode half (lit< l)

differ : weight fermat (multiplier 1) (word_of 1) ≢ weight fermat (multiplier 0) (word_of 1)
differ e = let z : ◌≡◌ {A = ℕ} 1 0 = ap fermat.code e in omega arith

-- the numbers that the contract gives are implicit, so that its `refl` and `tt` are computed at them; in the pair row of the square and its packed form, the
-- packed form's row stands from place 4 on
pub worked : {inverse half : ℕ} {weights row : List ℕ} {tried kept : ℕ}
    → bytes.code (bytes.times (bytes.decode 83) (bytes.decode inverse)) ≡ 1
    → fermat.code (fermat.times (fermat.decode 2) (fermat.decode half)) ≡ 1
    → Passes (ltb half 65537)
    → map (λ n. fermat.code (weight fermat fibonacci (word_of n))) (0 ∷ 1 ∷ 2 ∷ 3 ∷ 4 ∷ []) ≡ weights
    → UnitTests fermat (packed row) packed_units
    → KeptTests fermat square (packed row) 3 (λ i. 4 + i) (numbers row)
    → Passes (same_codes fermat 3 (λ i. weight fermat square (word_of i)) (λ i. weight fermat (packed row) (word_of i)))
    → KeptTests fermat fibonacci fibonacci kept (λ i. i) (numbers (1 ∷ 1 ∷ []))
    → tried ≡ 1 + kept
    → WorkedFigures inverse half weights row tried kept
unfolding product text_of body_of number digits
worked {inverse} {half} {weights} {row} {tried} {kept} byte two below weighs own pairs same itself others = record {
  byte_inverse = byte;
  byte_product = refl;
  residue_half = half_is half two below;
  residue_square = refl;
  fibonacci_weighs = weighs;
  fibonacci_reduced = own_form fermat fibonacci (rows ((65536 ∷ 1 ∷ []) ∷ (1 ∷ 0 ∷ []) ∷ [])) (record { one_letter = refl; reached = tt; told_apart = tt });
  nothing_reduced = form_of fermat (fibonacci_with (0 ∷ 0 ∷ [])) (of_codes [] [] []) 2 (λ i. i) (numbers (1 ∷ 1 ∷ [])) (rows [])
      (record { one_letter = refl; reached = tt; told_apart = tt }) (record { one_letter = refl; inside = tt; ones = tt; zeros = tt; next = tt }) tt;
  square_states = refl;
  square_reduced = form_of fermat square (packed row) 3 (λ i. 4 + i) (numbers row) packed_units own pairs same;
  itself_compared = says_alike fermat fibonacci fibonacci kept (λ i. i) (numbers (1 ∷ 1 ∷ [])) itself (λ w o. refl) tried others;
  text_of_one = (record { states = lit≤ tt; some_letter = lit≤ tt; letters = lit≤ tt }, refl);
  text_of_zero = (record { states = lit≤ tt; some_letter = lit≤ tt; letters = lit≤ tt }, refl);
  texts_compared = says_different fermat (multiplier 1) (multiplier 0) 2 (λ i. get_or (1 ∷ 0 ∷ []) i 0) (numbers (0 ∷ 1 ∷ []))
      (record { one_letter = refl; inside = tt; ones = tt; zeros = tt; next = tt }) 0 (lit< tt) tt differ;
}
