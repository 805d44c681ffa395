-- Two tables of one letter compared: kept words, weights and verdict, from tests that the checker computes. Assumes nothing.
use Rattle.std.proofs.Common.{◌≡◌, ℕ, suc, ◌+◌, ◌-◌, ◌*◌, ◌<◌, T as Passes, ltb, ◌≢◌, ◌⊎◌, ◌++◌, length, replicate, sym, refl, ap, ◌∙◌, subst, inl, inr, one-mul, mul-one, arith}
use Rattle.std.proofs.lemmas.Bool.{ltb-true}
use Rattle.field.specs.FiniteField.{FiniteField}
use Rattle.field.proofs.Tests.{all, all_at}
use Rattle.series.specs.Words.{◌≺◌}
use Rattle.series.specs.Listing.{Listed, Count}
use Rattle.series.specs.Families.{mix}
use Rattle.series.specs.Tables.{Table, weight, pair}
use Rattle.series.specs.Comparing.{Kept, Tried, Alike, LeastDifference}
use Rattle.series.specs.EliminationProgress.{Echelon}
use Rattle.series.proofs.SpanLaws.{span_same}
use Rattle.series.proofs.Families.{mix_span}
use Rattle.series.proofs.Listings.{followed_list, followed_at, listed_upto}
use Rattle.series.proofs.KeptWords.{kept_prefix, kept_decide, tried_listed, tried_number}
use Rattle.book.specs.Verdicts.{Says}
use Rattle.book.specs.declared.verdict.Kind.TheVariants as kinds
use Rattle.figures.specs.Examples.{word_of}
use Rattle.figures.proofs.Computed.{same_codes, same_values, same_rows, same_entries}
use Rattle.figures.proofs.OneLetter.{length_is, words_over, by_length, smaller_shorter, words_split, fresh_listed}

-- the pair rows of the first n words are in echelon form, with ones at the places `at`, and the next is a combination of them, by the coefficients c
pub record KeptTests {V : Type 0} (K : FiniteField V) (S T : Table V) (n : ℕ) (at : ℕ → ℕ) (c : ℕ → V) : Type 0 where
  pub one_letter : S.letters ≡ 1
  pub inside : Passes (all n (λ i. ltb (at i) (S.states + T.states)))
  pub ones : Passes (same_codes K n (λ i. pair K S T (word_of i) (at i)) (λ i. K.one))
  pub zeros : Passes (same_rows K n (λ j. j) (λ j i. pair K S T (word_of j) (at i)) (λ j i. K.zero))
  pub next : Passes (same_codes K (S.states + T.states) (pair K S T (word_of n)) (mix K n c (λ i. pair K S T (word_of i))))

module _ {V : Type 0} (K : FiniteField V) (S T : Table V) (n : ℕ) (at : ℕ → ℕ) (c : ℕ → V) (tests : KeptTests K S T n at c) where
  abbrev Place : ℕ → Type 0
  Place i = i < S.states + T.states

  stairs : Echelon K Place n (λ i. pair K S T (word_of i)) at
  stairs = record {
    within = λ i l. ltb-true (at i) (S.states + T.states) (all_at n (λ m. ltb (at m) (S.states + T.states)) tests.inside i l);
    apart = λ i l e. K.one_not_zero (sym (same_values K n (λ m. pair K S T (word_of m) (at m)) (λ m. K.one) tests.ones i l) ∙ e);
    clear = λ i j l h. same_entries K n (λ m. m) (λ m q. pair K S T (word_of m) (at q)) (λ m q. K.zero) tests.zeros j h i l;
  }

  -- the kept words are the first n
  pub kept_listed : Listed (Kept K S T) n word_of
  kept_listed = fresh_listed K Place S.letters tests.one_letter (pair K S T) (kept_prefix K S T) n at stairs
      (span_same K Place (pair K S T (word_of n)) (same_values K (S.states + T.states) (pair K S T (word_of n)) (mix K n c (λ i. pair K S T (word_of i))) tests.next)
      (mix_span K Place n c (λ i. pair K S T (word_of i))))

  -- if they weigh alike, all words do
  pub all_alike : Passes (same_codes K n (λ i. weight K S (word_of i)) (λ i. weight K T (word_of i))) → Alike K S T
  all_alike t = kept_decide K S T (λ w h. let r = kept_listed.whole w h in
      subst (λ v. weight K S v ≡ weight K T v) (sym r.2) (same_values K n (λ i. weight K S (word_of i)) (λ i. weight K T (word_of i)) t r.0 r.1))

  number : 1 + S.letters * n ≡ 1 + n
  number = ap (λ k. 1 + k * n) tests.one_letter ∙ ap (λ k. 1 + k) (one-mul n)

  pub says_alike : Alike K S T → (tried : ℕ) → tried ≡ 1 + n → Says K S T (record { kind = kinds.Alike; tried = tried; kept = n; length = 0; first = 0; second = 0; letters = replicate 31 0 })
  says_alike h tried e = inl (record {
    alike = h;
    kind = refl;
    tried = subst (Count (Tried K S T)) (number ∙ sym e) (tried_number K S T n (word_of, kept_listed)).0;
    kept = (word_of, kept_listed);
    length_zero = refl;
    first = refl;
    second = refl;
    letters = refl;
  })

  -- the words of up to m letters weigh alike, and the next does not
  module _ (m : ℕ) (few : m < n) (same : Passes (same_codes K (suc m) (λ i. weight K S (word_of i)) (λ i. weight K T (word_of i))))
      (differs : weight K S (word_of (suc m)) ≢ weight K T (word_of (suc m))) where
    least : LeastDifference K S T (word_of (suc m))
    least = record {
      over = words_over S.letters tests.one_letter (suc m);
      differs = differs;
      least = λ u l o. subst (λ v. weight K S v ≡ weight K T v) (sym (by_length S.letters tests.one_letter u o))
          (same_values K (suc m) (λ i. weight K S (word_of i)) (λ i. weight K T (word_of i)) same (length u) (smaller_shorter S.letters tests.one_letter u (suc m) o l));
    }

    -- it is tried after m + 1 others
    in_turn : followed_list S.letters word_of (suc m) ≡ word_of (suc m)
    in_turn =
        let e : m * S.letters + 1 ≡ suc m = ap (λ k. m * k + 1) tests.one_letter ∙ ap (λ k. k + 1) (mul-one m) ∙ omega arith in
        let f : m + 1 ≡ suc m = omega arith in
        ap (followed_list S.letters word_of) (sym e) ∙ followed_at S.letters word_of m 1 (omega arith) (omega (arith, tests.one_letter)) ∙ sym (words_split m 1) ∙ ap word_of f

    tried : Count (λ u. Tried K S T u × ((u ≺ word_of (suc m)) ⊎ (u ≡ word_of (suc m)))) (suc (suc m))
    tried = (
      followed_list S.letters word_of,
      subst (λ w. Listed (λ u. Tried K S T u × ((u ≺ w) ⊎ (u ≡ w))) (suc (suc m)) (followed_list S.letters word_of)) in_turn
          (listed_upto (Tried K S T) (1 + S.letters * n) (followed_list S.letters word_of) (tried_listed K S T n word_of kept_listed) (suc m) (omega (arith, number))),
    )

    pub says_different : Says K S T (record {
      kind = kinds.Differs;
      tried = suc (suc m);
      kept = 0;
      length = suc m;
      first = K.code (weight K S (word_of (suc m)));
      second = K.code (weight K T (word_of (suc m)));
      letters = word_of (suc m) ++ replicate (31 - suc m) 0;
    })
    says_different = inr (record {
      word = word_of (suc m);
      least = least;
      kind = refl;
      tried = tried;
      kept = refl;
      length_word = sym (length_is (suc m));
      first = refl;
      second = refl;
      letters = ap (λ l. word_of (suc m) ++ replicate (31 - l) 0) (sym (length_is (suc m)));
    })
