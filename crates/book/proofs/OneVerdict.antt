-- Two tables have one verdict. Assumes nothing.
use Rattle.std.proofs.Common.{◌≡◌, ℕ, ◌-◌, ◌⊎◌, ◌++◌, length, replicate, sym, refl, ap, ◌∙◌, subst, inl, inr, arith}
use Rattle.field.specs.FiniteField.{FiniteField}
use Rattle.series.specs.Words.{Word, ◌≺◌}
use Rattle.series.specs.Listing.{Count}
use Rattle.series.specs.Tables.{Table, weight}
use Rattle.series.specs.Comparing.{Kept, Tried, LeastDifference}
use Rattle.series.proofs.Orders.{≺-compare}
use Rattle.series.proofs.Listings.{count_unique}
use Rattle.book.specs.Verdicts.{Says}
use Rattle.book.specs.declared.verdict.Verdict.{Verdict}

one_count : (Good : Word → Type 0) (n m : ℕ) → Count Good n → Count Good m → n ≡ m
one_count Good n m a b = count_unique Good n m a.0 b.0 a.1 b.1

verdict_equal : (u v : Verdict) → u.kind ≡ v.kind → u.tried ≡ v.tried → u.kept ≡ v.kept → u.length ≡ v.length → u.first ≡ v.first → u.second ≡ v.second → u.letters ≡ v.letters → u ≡ v
verdict_equal u v a b c d e f g = λ i. record { kind = a i; tried = b i; kept = c i; length = d i; first = e i; second = f i; letters = g i }

module _ {V : Type 0} (K : FiniteField V) (S T : Table V) where
  least_one : (u v : Word) → LeastDifference K S T u → LeastDifference K S T v → u ≡ v
  least_one u v a b = go (≺-compare u v)
    where
      go : (u ≺ v) ⊎ ((u ≡ v) ⊎ (v ≺ u)) → u ≡ v
      go (inl l) = absurd (a.differs (b.least u l a.over))
      go (inr (inl e)) = e
      go (inr (inr l)) = absurd (b.differs (a.least v l b.over))

  pub says_one : (u v : Verdict) → Says K S T u → Says K S T v → u ≡ v
  says_one u v (inl a) (inl b) = verdict_equal u v (a.kind ∙ sym b.kind) (one_count (Tried K S T) u.tried v.tried a.tried b.tried) (one_count (Kept K S T) u.kept v.kept a.kept b.kept)
      (a.length_zero ∙ sym b.length_zero) (a.first ∙ sym b.first) (a.second ∙ sym b.second) (a.letters ∙ sym b.letters)
  says_one u v (inl a) (inr b) = absurd (b.least.differs (a.alike b.word b.least.over))
  says_one u v (inr a) (inl b) = absurd (a.least.differs (b.alike a.word a.least.over))
  says_one u v (inr a) (inr b) =
      let e : a.word ≡ b.word = least_one a.word b.word a.least b.least in
      let upto : Count (λ x. Tried K S T x × ((x ≺ b.word) ⊎ (x ≡ b.word))) u.tried = subst (λ w. Count (λ x. Tried K S T x × ((x ≺ w) ⊎ (x ≡ w))) u.tried) e a.tried in
      verdict_equal u v (a.kind ∙ sym b.kind) (one_count (λ x. Tried K S T x × ((x ≺ b.word) ⊎ (x ≡ b.word))) u.tried v.tried upto b.tried) (a.kept ∙ sym b.kept)
      (a.length_word ∙ ap length e ∙ sym b.length_word) (a.first ∙ ap (λ w. K.code (weight K S w)) e ∙ sym b.first) (a.second ∙ ap (λ w. K.code (weight K T w)) e ∙ sym b.second)
      (a.letters ∙ ap (λ w. w ++ replicate (31 - length w) 0) e ∙ sym b.letters)
