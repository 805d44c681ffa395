-- The worked figures. Those that are arguments stand in the contract that promises the figures. Assumes nothing.
use Rattle.std.specs.Prelude.{◌≡◌, ℕ, List, [], ◌∷◌, map, replicate}
use Rattle.byte.specs.Bytes.{bytes}
use Rattle.series.specs.Tables.{weight}
use Rattle.series.specs.Operations.{product_table}
use Rattle.series.specs.Reducing.{Reduced}
use Rattle.text.specs.Texts.{text_of}
use Rattle.text.specs.Readings.{Sized}
use Rattle.book.specs.Verdicts.{Says}
use Rattle.book.specs.declared.verdict.Kind.TheVariants as kinds
use Rattle.residue.specs.Delivered.{fermat}
use Rattle.figures.specs.Examples.{of_codes, fibonacci_with, fibonacci, multiplier, word_of, bytes_of_lines}

pub record WorkedFigures (inverse_of_83 half : ℕ) (fibonacci_weights square_row : List ℕ) (tried kept : ℕ) : Type 0 where
  -- GF(256): 83 and its inverse
  pub byte_inverse : bytes.code (bytes.times (bytes.decode 83) (bytes.decode inverse_of_83)) ≡ 1
  -- GF(256): a product
  pub byte_product : bytes.code (bytes.times (bytes.decode 87) (bytes.decode 131)) ≡ 193
  -- GF(65537): the inverse of 2
  pub residue_half : fermat.code (fermat.inverse (fermat.decode 2)) ≡ half
  -- GF(65537): the largest code, squared
  pub residue_square : fermat.code (fermat.times (fermat.decode 65536) (fermat.decode 65536)) ≡ 1
  -- the codes of what the words of 0 to 4 letters weigh under the Fibonacci table
  pub fibonacci_weighs : map (λ n. fermat.code (weight fermat fibonacci (word_of n))) (0 ∷ 1 ∷ 2 ∷ 3 ∷ 4 ∷ []) ≡ fibonacci_weights
  -- the Fibonacci table is its own reduced form
  pub fibonacci_reduced : Reduced fermat 1 (weight fermat fibonacci) fibonacci
  -- with an end column of zeros, its reduced form has no states
  pub nothing_reduced : Reduced fermat 1 (weight fermat (fibonacci_with (0 ∷ 0 ∷ []))) (of_codes [] [] [])
  -- multiplied by itself, the Fibonacci table has 4 states
  pub square_states : (product_table fermat fibonacci fibonacci).states ≡ 4
  -- and its reduced form 3
  pub square_reduced : Reduced fermat 1 (weight fermat (product_table fermat fibonacci fibonacci))
      (of_codes (1 ∷ 0 ∷ 0 ∷ []) ((0 ∷ 1 ∷ 0 ∷ []) ∷ (0 ∷ 0 ∷ 1 ∷ []) ∷ square_row ∷ []) (0 ∷ 1 ∷ 1 ∷ []))
  -- the verdict on the Fibonacci table and itself
  pub itself_compared : Says fermat fibonacci fibonacci (record { kind = kinds.Alike; tried = tried; kept = kept; length = 0; first = 0; second = 0; letters = replicate 31 0 })
  -- the text of the table of one state that multiplies by 1, which is within the limits of a text
  pub text_of_one : Sized (multiplier 1) × (text_of fermat (multiplier 1) ≡ bytes_of_lines (
      "T          1          1      65537" ∷
      "S          1" ∷
      "M          1          1          1" ∷
      "E          1" ∷
      "Z" ∷ []))
  -- the text of the one that multiplies by 0
  pub text_of_zero : Sized (multiplier 0) × (text_of fermat (multiplier 0) ≡ bytes_of_lines (
      "T          1          1      65537" ∷
      "S          1" ∷
      "M          1          1          0" ∷
      "E          1" ∷
      "Z" ∷ []))
  -- the verdict on the tables of these two texts
  pub texts_compared : Says fermat (multiplier 1) (multiplier 0) (record { kind = kinds.Differs; tried = 2; kept = 0; length = 1; first = 1; second = 0; letters = 1 ∷ replicate 30 0 })
