-- Words over one letter, which their length determines, and the fresh ones among them. Assumes nothing.
use Rattle.std.proofs.Common.{◌≡◌, ℕ, zero, suc, ◌+◌, ◌-◌, ◌<◌, [], ◌∷◌, ◌++◌, length, refl, ap, ◌∙◌, subst, ap₂, arith}
use native.Mathlib.Decide.{dec_lt}
use lib.ListN.{length-replicate}
use Rattle.field.specs.FiniteField.{FiniteField}
use Rattle.series.specs.Spans.{Span}
use Rattle.series.specs.Words.{Word, Over, ◌≺◌}
use Rattle.series.specs.Listing.{Listed}
use Rattle.series.specs.Families.{Of}
use Rattle.series.specs.Fresh.{Earlier, Fresh}
use Rattle.series.specs.EliminationProgress.{Echelon}
use Rattle.series.proofs.Orders.{≺-shorter, no_longer, same_not}
use Rattle.series.proofs.SpanLaws.{span_more}
use Rattle.series.proofs.Echelons.{echelon_independent}
use Rattle.figures.specs.Examples.{word_of}

pub length_is : (n : ℕ) → length (word_of n) ≡ n
length_is n = length-replicate n 1

-- fewer letters, smaller
pub words_rise : (i j : ℕ) → i < j → word_of i ≺ word_of j
words_rise i j l = ≺-shorter (word_of i) (word_of j) (omega (arith, length_is i, length_is j))

pub words_split : (i m : ℕ) → word_of (i + m) ≡ word_of i ++ word_of m
words_split zero m = ap word_of (omega arith)
words_split (suc i) m = let e : suc i + m ≡ suc (i + m) = omega arith in ap word_of e ∙ ap (λ w. 1 ∷ w) (words_split i m)

module _ (k : ℕ) (one : k ≡ 1) where
  pub words_over : (n : ℕ) → Over k (word_of n)
  words_over zero = tt
  words_over (suc n) = (omega arith, omega arith, words_over n)

  pub by_length : (w : Word) → Over k w → w ≡ word_of (length w)
  by_length [] o = refl
  by_length (a ∷ w) o = let e : a ≡ 1 = omega (arith, o.0, o.1) in ap₂ (λ b v. b ∷ v) e (by_length w o.2)

  -- what is smaller has fewer letters
  pub smaller_shorter : (w : Word) (n : ℕ) → Over k w → w ≺ word_of n → length w < n
  smaller_shorter w n o l = go (dec_lt (length w) n)
    where
      go : Dec (length w < n) → length w < n
      go (yes h) = h
      go (no h) = let e : length w ≡ n = omega (arith, no_longer w (word_of n) l, length_is n) in absurd (same_not w (word_of n) (by_length w o ∙ ap word_of e) l)

-- vectors of words of which the first n are in echelon form, and the next is a combination of them: the fresh words are the first n
module _ {V : Type 0} (K : FiniteField V) {X : Type 0} (P : X → Type 0) (k : ℕ) (one : k ≡ 1) (vector : Word → X → V)
    (prefix : (u v : Word) → Fresh K P k vector (u ++ v) → Fresh K P k vector u)
    (n : ℕ) (at : ℕ → X) (stairs : Echelon K P n (λ i. vector (word_of i)) at)
    (closed : Span K P (Of n (λ i. vector (word_of i))) (vector (word_of n))) where
  earlier : (i : ℕ) (x : X → V) → Earlier k vector (word_of i) x → Of i (λ j. vector (word_of j)) x
  earlier i x m = (length m.0, smaller_shorter k one m.0 i m.2 m.1, m.3 ∙ ap vector (by_length k one m.0 m.2))

  next_not : ¬ (Fresh K P k vector (word_of n))
  next_not h = h.1 (span_more K P (λ x m. (word_of m.0, words_rise m.0 n m.1, words_over k one m.0, m.2)) closed)

  short : (w : Word) → Fresh K P k vector w → Dec (length w < n) → length w < n
  short w h (yes l) = l
  short w h (no u) =
      let e : length w ≡ n + (length w - n) = omega arith in
      absurd (next_not (prefix (word_of n) (word_of (length w - n)) (subst (Fresh K P k vector) (by_length k one w h.0 ∙ ap word_of e ∙ words_split n (length w - n)) h)))

  pub fresh_listed : Listed (Fresh K P k vector) n word_of
  fresh_listed = record {
    ascends = λ i j l b. words_rise i j l;
    good = λ i l. (words_over k one i, λ s. echelon_independent K P n (λ j. vector (word_of j)) at stairs i l (span_more K P (earlier i) s));
    whole = λ v h. (length v, short v h (dec_lt (length v) n), by_length k one v h.0);
  }
