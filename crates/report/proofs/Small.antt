-- The numbers of a verdict are small. Assumes nothing.
use Rattle.std.proofs.Common.{◌≡◌, ℕ, zero, suc, ◌+◌, ◌-◌, ◌*◌, ◌^◌, ◌<◌, ◌≤◌, ◌⊎◌, length, replicate, refl, ap, ◌∙◌, subst₂, inl, inr, mul-le-mul, arith, length-append}
use lib.ListN.{length-replicate}
use Rattle.field.specs.FiniteField.{FiniteField}
use Rattle.series.specs.Words.{Word, ◌≺◌}
use Rattle.series.specs.Listing.{Listed, Count}
use Rattle.series.specs.Tables.{Table, weight}
use Rattle.series.specs.Comparing.{Kept, Tried}
use Rattle.series.proofs.Listings.{number_less}
use Rattle.series.proofs.KeptWords.{kept_number, difference_short, tried_number}
use Rattle.text.specs.Readings.{Sized}
use Rattle.book.specs.Verdicts.{Says}
use Rattle.book.specs.declared.verdict.Verdict.{Verdict}
use Rattle.report.specs.Findings.{Fits}

-- words of which a narrower property holds are not more
module _ (Good More : Word → Type 0) (more : (v : Word) → Good v → More v) (n m : ℕ) (xs ys : ℕ → Word) (X : Listed Good n xs) (Y : Listed More m ys) where
  -- each stands at its own number, or at a later one
  later : (i : ℕ) → i < n → (j : ℕ) × (i ≤ j) × (j < m) × (xs i ≡ ys j)
  later zero l = let r = Y.whole (xs 0) (more (xs 0) (X.good 0 l)) in (r.0, omega arith, r.1, r.2)
  later (suc i) l =
      let h = later i (omega arith) in
      let r = Y.whole (xs (suc i)) (more (xs (suc i)) (X.good (suc i) l)) in
      let up : ys h.0 ≺ ys r.0 = subst₂ ◌≺◌ h.3 r.2 (X.ascends i (suc i) (omega arith) l) in
      let past : h.0 < r.0 = number_less m ys Y.ascends h.0 r.0 h.2 r.1 up in
      (r.0, omega (arith, h.1), r.1, r.2)

  pub not_more : n ≤ m
  not_more = go n refl
    where
      go : (k : ℕ) → k ≡ n → n ≤ m
      go zero e = omega arith
      go (suc k) e = let h = later k (omega arith) in omega (arith, h.1, h.2)

module _ {V : Type 0} (K : FiniteField V) (S T : Table V) (left : Sized S) (right : Sized T) where
  few_kept : (n : ℕ) → Count (Kept K S T) n → n ≤ 32
  few_kept n c = let r = kept_number K S T in omega (arith, r.2 n c, r.3, left.states, right.states)

  few_tried : (n : ℕ) → Count (Kept K S T) n → 1 + S.letters * n ≤ 193
  few_tried n c = let h : S.letters * n ≤ 6 * 32 = mul-le-mul left.letters (few_kept n c) in omega arith

  code_small : (x : V) → K.code x < 10 ^ 10
  code_small x = omega (arith, K.code_below x, K.q_high)

  pub says_small : (v : Verdict) → Says K S T v → Fits v
  says_small v (inl a) =
      let n = few_tried v.kept a.kept in
      record {
        tried = omega (arith, (tried_number K S T v.kept a.kept).1 v.tried a.tried);
        kept = omega (arith, few_kept v.kept a.kept);
        length_short = omega (arith, a.length_zero);
        places = ap length a.letters ∙ length-replicate {A = ℕ} 31 0;
        first = omega (arith, a.first);
        second = omega (arith, a.second);
      }
  says_small v (inr d) =
      let r = kept_number K S T in
      let t = (tried_number K S T r.0 r.1).0 in
      let less = not_more (λ u. Tried K S T u × ((u ≺ d.word) ⊎ (u ≡ d.word))) (Tried K S T) (λ u h. h.0) v.tried (1 + S.letters * r.0) d.tried.0 t.0 d.tried.1 t.1 in
      let short : length d.word ≤ 31 = omega (arith, difference_short K S T d.word d.least, left.states, right.states) in
      record {
        tried = omega (arith, few_tried r.0 r.1);
        kept = omega (arith, d.kept);
        length_short = omega (arith, d.length_word);
        places = ap length d.letters ∙ length-append d.word (replicate (31 - length d.word) 0) ∙ ap (λ n. length d.word + n) (length-replicate {A = ℕ} (31 - length d.word) 0) ∙ omega arith;
        first = omega (arith, d.first, code_small (weight K S d.word));
        second = omega (arith, d.second, code_small (weight K T d.word));
      }
