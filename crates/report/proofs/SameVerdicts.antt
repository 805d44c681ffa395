-- The verdict on two tables is that on tables that agree with them number for number. Assumes nothing.
use Rattle.std.proofs.Common.{◌≡◌, ℕ, ◌+◌, ◌<◌, ◌⊎◌, sym, refl, ap, ◌∙◌, subst, subst₂, inl, inr}
use Rattle.field.specs.FiniteField.{FiniteField}
use Rattle.series.specs.Words.{Word, Over, ◌≺◌}
use Rattle.series.specs.Tables.{Table, SameTable, row, weight, pair}
use Rattle.series.specs.Comparing.{Kept, Tried}
use Rattle.series.proofs.Places.{both_parts, beside_left, beside_right}
use Rattle.series.proofs.FreshWords.{fresh_alike}
use Rattle.series.proofs.Listings.{listed_same}
use Rattle.series.proofs.Weights.{same_after, same_weight}
use Rattle.book.specs.Verdicts.{Says}
use Rattle.book.specs.declared.verdict.Verdict.{Verdict}

module _ {V : Type 0} (K : FiniteField V) where
  -- the numbers of T, with the sizes of S
  abbrev resized : Table V → Table V → Table V
  resized S T = record { states = S.states; letters = S.letters; start = T.start; step = T.step; end = T.end }

  resized_is : (S T : Table V) → SameTable S T → resized S T ≡ T
  resized_is S T e = λ i. record { states = e.states i; letters = e.letters i; start = T.start; step = T.step; end = T.end }

  resized_same : (S T : Table V) → SameTable S T → SameTable S (resized S T)
  resized_same S T e = record { states = refl; letters = refl; start = e.start; step = e.step; end = e.end }

  module _ (S T A B : Table V) (left : SameTable S A) (right : SameTable T B) (letters : S.letters ≡ T.letters) where
    abbrev S' : Table V
    S' = resized S A

    abbrev T' : Table V
    T' = resized T B

    over : (w : Word) → Over S.letters w → Over T.letters w
    over w o = subst (λ k. Over k w) letters o

    pair_same : (w : Word) → Over S.letters w → (i : ℕ) → i < S.states + T.states → pair K S T w i ≡ pair K S' T' w i
    pair_same w o = both_parts S.states T.states (λ i. pair K S T w i ≡ pair K S' T' w i)
        (λ i l. beside_left S.states (row K S w) (row K T w) i l
        ∙ same_after K S S' (resized_same S A left) S.start A.start left.start w o i l
        ∙ sym (beside_left S.states (row K S' w) (row K T' w) i l))
        (λ i l. beside_right S.states (row K S w) (row K T w) i
        ∙ same_after K T T' (resized_same T B right) T.start B.start right.start w (over w o) i l
        ∙ sym (beside_right S.states (row K S' w) (row K T' w) i))

    kept_to : (w : Word) → Kept K S T w → Kept K S' T' w
    kept_to = fresh_alike K (λ i. i < S.states + T.states) S.letters (pair K S T) (pair K S' T') pair_same

    kept_back : (w : Word) → Kept K S' T' w → Kept K S T w
    kept_back = fresh_alike K (λ i. i < S.states + T.states) S.letters (pair K S' T') (pair K S T) (λ w o i l. sym (pair_same w o i l))

    tried_to : (w : Word) → Tried K S T w → Tried K S' T' w
    tried_to w (inl e) = inl e
    tried_to w (inr h) = inr (h.0, h.1, kept_to h.0 h.2, h.3, h.4, h.5)

    tried_back : (w : Word) → Tried K S' T' w → Tried K S T w
    tried_back w (inl e) = inl e
    tried_back w (inr h) = inr (h.0, h.1, kept_back h.0 h.2, h.3, h.4, h.5)

    weight_left : (w : Word) → Over S.letters w → weight K S w ≡ weight K S' w
    weight_left = same_weight K S S' (resized_same S A left)

    weight_right : (w : Word) → Over S.letters w → weight K T w ≡ weight K T' w
    weight_right w o = same_weight K T T' (resized_same T B right) w (over w o)

    both_weights : (w : Word) → Over S.letters w → weight K S w ≡ weight K T w → weight K S' w ≡ weight K T' w
    both_weights w o e = sym (weight_left w o) ∙ e ∙ weight_right w o

    resized_says : (v : Verdict) → Says K S T v → Says K S' T' v
    resized_says v (inl a) = inl (record {
      alike = λ w o. both_weights w o (a.alike w o);
      kind = a.kind;
      tried = (a.tried.0, listed_same (Tried K S T) (Tried K S' T') tried_to tried_back a.tried.1);
      kept = (a.kept.0, listed_same (Kept K S T) (Kept K S' T') kept_to kept_back a.kept.1);
      length_zero = a.length_zero;
      first = a.first;
      second = a.second;
      letters = a.letters;
    })
    resized_says v (inr d) = inr (record {
      word = d.word;
      least = record {
        over = d.least.over;
        differs = λ e. d.least.differs (weight_left d.word d.least.over ∙ e ∙ sym (weight_right d.word d.least.over));
        least = λ u l o. both_weights u o (d.least.least u l o);
      };
      kind = d.kind;
      tried = (d.tried.0, listed_same (NotAfter (Tried K S T)) (NotAfter (Tried K S' T')) (λ u h. (tried_to u h.0, h.1)) (λ u h. (tried_back u h.0, h.1)) d.tried.1);
      kept = d.kept;
      length_word = d.length_word;
      first = d.first ∙ ap K.code (weight_left d.word d.least.over);
      second = d.second ∙ ap K.code (weight_right d.word d.least.over);
      letters = d.letters;
    })
      where
        NotAfter : (Word → Type 0) → Word → Type 0
        NotAfter Good u = Good u × ((u ≺ d.word) ⊎ (u ≡ d.word))

    pub says_same : (v : Verdict) → Says K S T v → Says K A B v
    says_same v h = subst₂ (λ P Q. Says K P Q v) (resized_is S A left) (resized_is T B right) (resized_says v h)
