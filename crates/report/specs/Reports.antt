-- What is reported of two texts. Assumes nothing.
use Rattle.std.specs.Prelude.{◌≡◌, ℕ, ◌<◌, ◌≤◌, ◌≢◌, ◌↔◌, List, [], ◌∷◌, ◌++◌, length, drop, slice_index}
use Rattle.field.specs.FiniteField.{FiniteField}
use Rattle.series.specs.Tables.{Table}
use Rattle.series.specs.Comparing.{Alike}
use Rattle.columns.specs.Lines.{line}
use Rattle.text.specs.Texts.{text_of}
use Rattle.text.specs.Readings.{Sized, Refuses}
use Rattle.faults.specs.declared.LoadFault.{LoadFault}
use Rattle.book.specs.Refusals.{refusal_number, refusal_position}
use Rattle.book.specs.Verdicts.{SaysAlike, SaysDifferent, reported}
use Rattle.book.specs.declared.refusal.Refusal.{Refusal}
use Rattle.book.specs.declared.refusal.Refusal.TheVariants.{LettersDiffer, Unreadable}
use Rattle.book.specs.declared.verdict.Verdict.{Verdict}

-- Q: all words weigh alike; so many words are tried, and so many kept
abbrev pub alike_line : Verdict → List ℕ
alike_line v = line 81 (v.tried ∷ v.kept ∷ [])

-- D: how many words are tried up to the word that is reported, its length, the codes of its weights under the first and the second table, and its letters
abbrev pub different_line : Verdict → List ℕ
different_line v = line 68 (v.tried ∷ v.length ∷ v.first ∷ v.second ∷ reported v)

-- R: which text is refused (0 for the two together), the refusal's number, and its line and column, 0 and 0 where it has none
abbrev pub refused_line : ℕ → Refusal → List ℕ
refused_line which r = line 82 (which ∷ refusal_number r ∷ (refusal_position r).0 ∷ (refusal_position r).1 ∷ [])

module _ {V : Type 0} (K : FiniteField V) where
  -- the text is that of the table, which is within the limits
  pub record IsText (text : List ℕ) (T : Table V) : Type 0 where
    pub sized : Sized T
    pub is : text ≡ text_of K T

  -- the two texts are those of two tables with one letter count
  pub record AreTexts (first second : List ℕ) (S T : Table V) : Type 0 where
    pub left : IsText first S
    pub right : IsText second T
    pub letters : S.letters ≡ T.letters

  -- the line that reports on two texts; the second is not read where the first is refused
  pub data ReportLine (first second : List ℕ) : List ℕ → Type 0 where
    first_refused : (f : LoadFault) → Refuses K first f → ReportLine first second (refused_line 1 (Unreadable f))
    second_refused : (S : Table V) (f : LoadFault) → IsText first S → Refuses K second f → ReportLine first second (refused_line 2 (Unreadable f))
    letters_differ : (S T : Table V) → IsText first S → IsText second T → S.letters ≢ T.letters → ReportLine first second (refused_line 0 LettersDiffer)
    alike : (S T : Table V) (v : Verdict) → AreTexts first second S T → SaysAlike K S T v → ReportLine first second (alike_line v)
    different : (S T : Table V) (v : Verdict) → AreTexts first second S T → SaysDifferent K S T v → ReportLine first second (different_line v)

  -- how many bytes are written, and the output after that: nothing where it has fewer than 387 bytes, and else the line at its front, while later bytes stay
  pub data Reports (first second output : List ℕ) : ℕ → List ℕ → Type 0 where
    no_room : length output < 387 → Reports first second output 0 output
    written : (l : List ℕ) → 387 ≤ length output → ReportLine first second l → Reports first second output (length l) (l ++ drop (length l) output)

  -- both are texts of tables with one letter count that weigh every word alike
  pub record WeighAlike (first second : List ℕ) : Type 0 where
    pub S : Table V
    pub T : Table V
    pub texts : AreTexts first second S T
    pub all_alike : Alike K S T

  -- a report line begins with this byte exactly where the texts are those of tables that weigh every word alike
  abbrev pub BeginsWhereAlike : ℕ → Type 0
  BeginsWhereAlike b = (first second l : List ℕ) → ReportLine first second l → (slice_index l 0 ≡ b) ↔ WeighAlike first second

  -- two texts have one report line
  abbrev pub OneLine : Type 0
  OneLine = (first second l m : List ℕ) → ReportLine first second l → ReportLine first second m → l ≡ m
