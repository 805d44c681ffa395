-- The codes of elements. Assumes nothing.
use Rattle.std.proofs.Common.{◌≡◌, ℕ, ◌+◌, ◌-◌, ◌*◌, ◌/◌, ◌%◌, ◌^◌, ◌<◌, ◌≤◌, List, [], ◌∷◌, ◌++◌, map, length, take, drop, set, sym, ap, ◌∙◌, subst, arith}
use borrow.Rule.Slice.PartMut.{put_mid}
use Rattle.std.specs.List.{AllByRecursion as All}
use Rattle.std.proofs.lemmas.List.{map-set, map-append, take-map, drop-map, length-map}
use Rattle.field.specs.FiniteField.{FiniteField}
use Rattle.columns.specs.Lines.{line}
use Rattle.reader.specs.Items.{along, after, close}
use Rattle.columns.specs.Numbers.{number}
use Rattle.reader.specs.Steps.{Went}
use Rattle.text.specs.Rows.{codes_of}
use Rattle.reader.specs.declared.Reader.{Reader}
use Rattle.reader.proofs.Runs.{Rowed, rowed_more}
use Rattle.text.proofs.Rows.{Lined, lined_more}

pub map_put_mid : {X Y : Type 0} (f : X → Y) (a k : ℕ) (xs ys : List X) → map f (put_mid a k xs ys) ≡ put_mid a k (map f xs) (map f ys)
map_put_mid f a k xs ys =
    map-append f (take a xs) (ys ++ drop k (drop a xs))
    ∙ (λ i. sym (take-map f a xs) i ++ map-append f ys (drop k (drop a xs)) i)
    ∙ ap (λ l. take a (map f xs) ++ (map f ys ++ l)) (sym (drop-map f k (drop a xs)) ∙ ap (drop k) (sym (drop-map f a xs)))

module _ {F V : Type 0} (K : FiniteField V) (value : F → V) where
  pub code_high : (x : V) → K.code x ≤ K.q - 1
  code_high x = omega (arith, K.code_below x)

  pub high_small : K.q - 1 < 10 ^ 10
  high_small = omega (arith, K.q_high)

  pub codes_high : (xs : List F) → All (λ v. v ≤ K.q - 1) (codes_of K value xs)
  codes_high [] = tt
  codes_high (x ∷ xs) = (code_high (value x), codes_high xs)

  pub codes_small : (xs : List F) → All (λ v. v < 10 ^ 10) (codes_of K value xs)
  codes_small [] = tt
  codes_small (x ∷ xs) = (omega (arith, K.code_below (value x), K.q_high), codes_small xs)

  -- one more element of a row
  pub element_more : (r s t : Reader) (xs : List F) (i : ℕ) (x : F) → i < length xs → Rowed r s (codes_of K value xs) i (K.q - 1) → Went s t (number (K.code (value x))) (along s.position 11) → Rowed r t (codes_of K value (set xs i x)) (i + 1) (K.q - 1)
  element_more r s t xs i x on rowed w =
      subst (λ l. Rowed r t l (i + 1) (K.q - 1)) (sym (map-set (λ y. K.code (value y)) xs i x))
      (rowed_more r s t (codes_of K value xs) i (K.q - 1) (K.code (value x)) (omega (arith, length-map xs (λ y. K.code (value y)))) rowed (code_high (value x)) w)

  -- one more row of a matrix
  pub lined_next : (n : ℕ) (xs ys : List F) (j k : ℕ) → j < 1000 → j * n ≤ length xs → length ys ≡ n → (r s t : Reader) (b : ℕ) → b ≡ 77 → Lined r s n (K.q - 1) (codes_of K value xs) j → Went s t (line b ((j / n + 1) ∷ (j % n + 1) ∷ codes_of K value ys)) (after close s.position) → Lined r t n (K.q - 1) (codes_of K value (put_mid (j * n) k xs ys)) (j + 1)
  lined_next n xs ys j k few fits long r s t b e lined w =
      let c = λ (y : F). K.code (value y) in
      subst (λ l. Lined r t n (K.q - 1) l (j + 1)) (sym (map_put_mid (λ y. K.code (value y)) (j * n) k xs ys))
      (lined_more n (K.q - 1) high_small (codes_of K value xs) (codes_of K value ys) j k few (omega (arith, length-map xs c)) (length-map ys c ∙ long) r s t lined (subst (λ x. Went s t (line x ((j / n + 1) ∷ (j % n + 1) ∷ codes_of K value ys)) (after close s.position)) e w) (codes_high ys))
