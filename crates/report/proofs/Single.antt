-- Two texts have one report line, and it begins with Q exactly where the tables weigh alike. Assumes nothing.
use Rattle.std.proofs.Common.{◌≡◌, ℕ, ◌≢◌, List, get_or, sym, refl, ap, ◌∙◌, subst, inl, inr, arith}
use Rattle.field.specs.FiniteField.{FiniteField}
use Rattle.series.specs.Tables.{Table, SameTable}
use Rattle.series.specs.Words.{Over}
use Rattle.series.proofs.Weights.{same_weight}
use Rattle.text.specs.Readings.{Refuses}
use Rattle.text.specs.Facts.{ToldApart, Decided}
use Rattle.faults.specs.declared.LoadFault.{LoadFault}
use Rattle.book.specs.Verdicts.{Says}
use Rattle.book.specs.declared.refusal.Refusal.TheVariants.{LettersDiffer, Unreadable}
use Rattle.book.specs.declared.verdict.Verdict.{Verdict}
use Rattle.book.proofs.OneVerdict.{says_one}
use Rattle.report.specs.Reports.{IsText, ReportLine, first_refused, second_refused, letters_differ, alike, different, refused_line, WeighAlike, OneLine, BeginsWhereAlike}
use Rattle.report.specs.Findings.{verdict_line}
use Rattle.report.proofs.SameVerdicts.{says_same}

module _ {V : Type 0} (K : FiniteField V) (told_apart : ToldApart K) (decided : Decided K) where
  -- a text is that of a table, or refused, and not both
  clash : (text : List ℕ) (T : Table V) (f : LoadFault) → IsText K text T → Refuses K text f → ⊥
  clash text T f is no_text = (decided text).0 T f is.sized is.is no_text

  -- two tables with one text agree
  same : (text : List ℕ) (S T : Table V) → IsText K text S → IsText K text T → SameTable S T
  same text S T a b = told_apart S T a.sized b.sized (sym a.is ∙ b.is)

  module _ (first second : List ℕ) where
    -- the line, where both are tables
    data Both (S T : Table V) (l : List ℕ) : Type 0 where
      unlike : S.letters ≢ T.letters → l ≡ refused_line 0 LettersDiffer → Both S T l
      compared : (v : Verdict) → S.letters ≡ T.letters → Says K S T v → l ≡ verdict_line v.kind v → Both S T l

    -- the line, where the first is a table
    data Later (S : Table V) (l : List ℕ) : Type 0 where
      bad : (f : LoadFault) → Refuses K second f → l ≡ refused_line 2 (Unreadable f) → Later S l
      good : (T : Table V) → IsText K second T → Both S T l → Later S l

    -- the line
    data Any (l : List ℕ) : Type 0 where
      bad : (f : LoadFault) → Refuses K first f → l ≡ refused_line 1 (Unreadable f) → Any l
      good : (S : Table V) → IsText K first S → Later S l → Any l

    any : (l : List ℕ) → ReportLine K first second l → Any l
    any l (first_refused f h) = bad f h refl
    any l (second_refused S f a h) = good S a (bad f h refl)
    any l (letters_differ S T a b h) = good S a (good T b (unlike h refl))
    any l (alike S T v h s) = good S h.left (good T h.right (compared v h.letters (inl s) (ap (λ k. verdict_line k v) (sym s.kind))))
    any l (different S T v h s) = good S h.left (good T h.right (compared v h.letters (inr s) (ap (λ k. verdict_line k v) (sym s.kind))))

    module _ (l m : List ℕ) where
      both_one : (S T S' T' : Table V) → SameTable S S' → SameTable T T' → Both S T l → Both S' T' m → l ≡ m
      both_one S T S' T' a b (unlike h e) (unlike g d) = e ∙ sym d
      both_one S T S' T' a b (unlike h e) (compared v g s d) = absurd (h (a.letters ∙ g ∙ sym b.letters))
      both_one S T S' T' a b (compared v h s e) (unlike g d) = absurd (g (sym a.letters ∙ h ∙ b.letters))
      both_one S T S' T' a b (compared u h s e) (compared v g t d) = e ∙ ap (λ z. verdict_line z.kind z) (says_one K S' T' u v (says_same K S T S' T' a b h u s) t) ∙ sym d

      later_one : (S S' : Table V) → SameTable S S' → Later S l → Later S' m → l ≡ m
      later_one S S' a (bad f h e) (bad g j d) = e ∙ ap (λ z. refused_line 2 (Unreadable z)) ((decided second).1 f g h j) ∙ sym d
      later_one S S' a (bad f h e) (good T b r) = absurd (clash second T f b h)
      later_one S S' a (good T b r) (bad f h e) = absurd (clash second T f b h)
      later_one S S' a (good T b r) (good T' d q) = both_one S T S' T' a (same second T T' b d) r q

      any_one : Any l → Any m → l ≡ m
      any_one (bad f h e) (bad g j d) = e ∙ ap (λ z. refused_line 1 (Unreadable z)) ((decided first).1 f g h j) ∙ sym d
      any_one (bad f h e) (good S a r) = absurd (clash first S f a h)
      any_one (good S a r) (bad f h e) = absurd (clash first S f a h)
      any_one (good S a r) (good S' b q) = later_one S S' (same first S S' a b) r q

    begins : (l : List ℕ) → ReportLine K first second l → get_or l 0 0 ≡ 81 → WeighAlike K first second
    begins l (first_refused f h) e = absurd (omega arith)
    begins l (second_refused S f a h) e = absurd (omega arith)
    begins l (letters_differ S T a b h) e = absurd (omega arith)
    begins l (alike S T v h s) e = record { S = S; T = T; texts = h; all_alike = s.alike }
    begins l (different S T v h s) e = absurd (omega arith)

    begun : (l : List ℕ) → ReportLine K first second l → WeighAlike K first second → get_or l 0 0 ≡ 81
    begun l (first_refused f h) w = absurd (clash first w.S f w.texts.left h)
    begun l (second_refused S f a h) w = absurd (clash second w.T f w.texts.right h)
    begun l (letters_differ S T a b h) w = absurd (h ((same first S w.S a w.texts.left).letters ∙ w.texts.letters ∙ sym (same second T w.T b w.texts.right).letters))
    begun l (alike S T v h s) w = refl
    begun l (different S T v h s) w =
        let a = same first S w.S h.left w.texts.left in
        let b = same second T w.T h.right w.texts.right in
        let o = s.least.over in
        absurd (s.least.differs (same_weight K S w.S a s.word o ∙ w.all_alike s.word (subst (λ k. Over k s.word) a.letters o) ∙ sym (same_weight K T w.T b s.word (subst (λ k. Over k s.word) h.letters o))))

  pub one_line : OneLine K
  one_line first second l m a b = any_one first second l m (any first second l a) (any first second m b)

  pub q_exactly : BeginsWhereAlike K 81
  q_exactly first second l h = (begins first second l h, begun first second l h)
