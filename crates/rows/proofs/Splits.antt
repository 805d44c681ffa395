-- Values in a slice that is split in two parts. Assumes nothing.
use Rattle.std.proofs.Common.{◌≡◌, ℕ, ◌+◌, ◌<◌, List, ◌++◌, map, length, get_or, sym, ap, ◌∙◌, arith}
use Rattle.std.proofs.lemmas.List.{length-map, map-append, get_or_append_left, get_or-append-add}
use Rattle.field.specs.FiniteField.{FiniteField}
use Rattle.field.specs.Rows.{at}

module _ {F V : Type 0} (K : FiniteField V) (v : F → V) where
  -- a value in the first part
  pub at_front : (xs ys : List F) (i : ℕ) → i < length xs → at K v (xs ++ ys) i ≡ at K v xs i
  at_front xs ys i l =
      ap (λ zs. get_or zs i K.zero) (map-append v xs ys)
      ∙ get_or_append_left (map v xs) (map v ys) K.zero i (omega (arith, length-map xs v))

  -- a value in the second part
  pub at_back : (xs ys : List F) (n i : ℕ) → length xs ≡ n → at K v (xs ++ ys) (n + i) ≡ at K v ys i
  at_back xs ys n i e =
      ap (λ m. at K v (xs ++ ys) (m + i)) (sym e ∙ sym (length-map xs v))
      ∙ ap (λ zs. get_or zs (length (map v xs) + i) K.zero) (map-append v xs ys)
      ∙ get_or-append-add (map v xs) (map v ys) i K.zero

  -- the same where the slice is known to be the two parts
  module _ (zs xs ys : List F) (n : ℕ) (parts : zs ≡ xs ++ ys) (long : length xs ≡ n) where
    pub at_first : (i : ℕ) → i < n → at K v xs i ≡ at K v zs i
    at_first i l = sym (ap (λ q. at K v q i) parts ∙ at_front xs ys i (omega arith))

    pub at_second : (i : ℕ) → at K v ys i ≡ at K v zs (n + i)
    at_second i = sym (ap (λ q. at K v q (n + i)) parts ∙ at_back xs ys n i long)
