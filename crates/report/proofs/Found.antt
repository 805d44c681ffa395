-- What two loads and a compare find is what the report line says of the texts. Assumes nothing.
use Rattle.std.proofs.Common.{◌≡◌, ℕ, ◌≤◌, List, length, true, true≢false, Ok, Err, Result, MatchResult, sym, refl, ap, ◌∙◌, subst, inl, inr, arith}
use Rattle.std.specs.Result.{is_ok, IsErrAnd}
use Rattle.field.specs.FiniteField.{FiniteField}
use Rattle.series.specs.Tables.{Table}
use Rattle.book.specs.Shelves.{State, table}
use Rattle.book.specs.Calls.{load, compare}
use Rattle.book.specs.Refusing.{compare_letters}
use Rattle.book.specs.Doing.{Makes, Does}
use Rattle.book.specs.Verdicts.{Says}
use Rattle.book.specs.declared.outcome.Answer.TheVariants.{Done, Told}
use Rattle.book.specs.declared.refusal.Refusal.{Refusal}
use Rattle.book.specs.declared.refusal.Refusal.TheVariants.{LettersDiffer}
use Rattle.book.specs.declared.verdict.Verdict.{Verdict}
use Rattle.book.proofs.Accepting.{not_other}
use Rattle.shelf.specs.Views.{outcome_by}
use Rattle.report.specs.Reports.{IsText, AreTexts, ReportLine, first_refused, second_refused, letters_differ, alike, different, refused_line}
use Rattle.report.specs.Findings.{finding_line, verdict_line, Fits}
use Rattle.report.specs.declared.finding.Rejection.{Rejection}
use Rattle.report.specs.declared.finding.Rejection.TheVariants.{First, Second, Together}
use Rattle.report.proofs.Small.{says_small}
use Rattle.report.proofs.SameVerdicts.{says_same}
use Rattle.report.proofs.Loads.{load_refused, compare_refused, Loaded, both_loaded}

-- room for loading and comparing
abbrev pub Roomy : {F : Type 0} → State F → Type 0
Roomy s = (12544 ≤ length s.shelf.memory) × (8192 ≤ s.lent.work)

-- a call that a `?` behind a `map_err` lets pass
passed : {E : Type 0} (r : Result (Unit {0}) E) → true ≡ is_ok r → r ≡ Ok tt
passed (Ok x) e = refl
passed (Err y) e = absurd (true≢false e)

-- what a `?` behind a `map_err` by the variant f returns, of a call's result: the refusal as that variant
abbrev pub Rejected : (Refusal → Rejection) → Result (Unit {0}) Refusal → Rejection → Result Verdict Rejection → Type 0
Rejected f r d found = MatchResult r (λ x. Err d ≡ Ok x) (λ e. d ≡ f e) × IsErrAnd found (λ y. y ≡ d)

rejected : (f : Refusal → Rejection) (r : Result (Unit {0}) Refusal) (d : Rejection) (found : Result Verdict Rejection) → Rejected f r d found → (e : Refusal) × (r ≡ Err e) × (found ≡ Err (f e))
rejected f (Ok x) d found h = absurd (true≢false (sym (ap is_ok h.0)))
rejected f (Err e) d (Ok v) h = absurd h.1
rejected f (Err e) d (Err y) h = (e, refl, ap (λ z. Err z) (h.1 ∙ h.0))

module _ {V : Type 0} (K : FiniteField V) {F : Type 0} (value : F → V) (first second : List ℕ) where
  -- loading a text gave this result
  abbrev Loads : State F → List ℕ → ℕ → Result (Unit {0}) Refusal → State F → Type 0
  Loads s text to r t = Does K value s (load text to) (outcome_by (λ _. Done) r) t

  pub tells_first : (s t : State F) (r : Result (Unit {0}) Refusal) (d : Rejection) (found : Result Verdict Rejection) → Roomy s → Loads s first 1 r t → Rejected First r d found → ReportLine K first second (finding_line found)
  tells_first s t r d found room does h =
      let j = rejected First r d found h in
      let does : Does K value s (load first 1) (Err j.0) t = subst (λ z. Loads s first 1 z t) j.1 does in
      let h = load_refused K value s first 1 j.0 (omega arith, omega arith) room.0 room.1 does.0.meets in
      subst (λ z. ReportLine K first second (finding_line z)) (sym j.2) (subst (λ q. ReportLine K first second (refused_line 1 q)) (sym h.1) (first_refused h.0 h.2))

  -- the table that a load made, where it was not refused
  record Read (text : List ℕ) (to : ℕ) (s t : State F) : Type 0 where
    R : Table V
    text_is : IsText K text R
    makes : Makes K value s to R t

  read : (text : List ℕ) (to : ℕ) (s t : State F) (r : Result (Unit {0}) Refusal) → Loads s text to r t → true ≡ is_ok r → Read text to s t
  read text to s t r does ok =
      let d : Does K value s (load text to) (Ok Done) t = subst (λ z. Loads s text to z t) (passed r ok) does in
      record { R = d.1.1.0; text_is = record { sized = d.1.1.1; is = d.1.1.2 }; makes = d.1.1.3 }

  pub tells_second : (s t u : State F) (q r : Result (Unit {0}) Refusal) (d : Rejection) (found : Result Verdict Rejection) → Roomy t → Loads s first 1 q t → true ≡ is_ok q → Loads t second 2 r u → Rejected Second r d found → ReportLine K first second (finding_line found)
  tells_second s t u q r d found room one ok two h =
      let f = read first 1 s t q one ok in
      let j = rejected Second r d found h in
      let does : Does K value t (load second 2) (Err j.0) u = subst (λ z. Loads t second 2 z u) j.1 two in
      let h = load_refused K value t second 2 j.0 (omega arith, omega arith) room.0 room.1 does.0.meets in
      subst (λ z. ReportLine K first second (finding_line z)) (sym j.2) (subst (λ x. ReportLine K first second (refused_line 2 x)) (sym h.1) (second_refused f.R h.0 f.text_is h.2))

  module _ (s t u : State F) (q r : Result (Unit {0}) Refusal) (eight : length s.shelf.entries ≡ 8) (one : Loads s first 1 q t) (first_ok : true ≡ is_ok q) (two : Loads t second 2 r u) (second_ok : true ≡ is_ok r) where
    f : Read first 1 s t
    f = read first 1 s t q one first_ok

    g : Read second 2 t u
    g = read second 2 t u r two second_ok

    there : Loaded K value u.shelf f.R g.R
    there = both_loaded K value s t t u f.R g.R eight f.text_is.sized f.makes refl g.makes

    -- comparing the two tables gave this result
    abbrev Compares : Result (Unit {0}) Refusal → State F → Type 0
    Compares c w = Does K value u (compare 1 2) (outcome_by (λ _. Told w.lent.verdict) c) w

    pub tells_neither : (w : State F) (c : Result (Unit {0}) Refusal) (d : Rejection) (found : Result Verdict Rejection) → Roomy u → Compares c w → Rejected Together c d found → ReportLine K first second (finding_line found)
    tells_neither w c d found room does h =
        let j = rejected Together c d found h in
        let does : Does K value u (compare 1 2) (Err j.0) w = subst (λ z. Compares z w) j.1 does in
        let h = compare_refused K value u j.0 f.R g.R there room.0 room.1 does.0.meets in
        subst (λ z. ReportLine K first second (finding_line z)) (sym j.2) (subst (λ x. ReportLine K first second (refused_line 0 x)) (sym h.0) (letters_differ f.R g.R f.text_is g.text_is h.1))

    pub tells_verdict : (w : State F) (c : Result (Unit {0}) Refusal) → Compares c w → true ≡ is_ok c → ReportLine K first second (verdict_line w.lent.verdict.kind w.lent.verdict) × Fits w.lent.verdict
    tells_verdict w c does ok =
        let does : Does K value u (compare 1 2) (Ok (Told w.lent.verdict)) w = subst (λ z. Compares z w) (passed c ok) does in
        let v = does.1.0 in
        let S = table K value u.shelf 1 in
        let T = table K value u.shelf 2 in
        let same : S.letters ≡ T.letters = not_other S.letters T.letters (λ h. does.0 LettersDiffer (compare_letters h)) in
        let letters : f.R.letters ≡ g.R.letters = sym there.first_same.letters ∙ same ∙ there.second_same.letters in
        let says : Says K f.R g.R v = says_same K S T f.R g.R there.first_same there.second_same same v does.1.1 in
        let is : w.lent.verdict ≡ v = ap (λ l. l.verdict) does.1.3.lent in
        subst (λ z. ReportLine K first second (verdict_line z.kind z) × Fits z) (sym is)
        (by_kind v (record { left = f.text_is; right = g.text_is; letters = letters }) says, says_small K f.R g.R f.text_is.sized g.text_is.sized v says)
      where
        by_kind : (v : Verdict) → AreTexts K first second f.R g.R → Says K f.R g.R v → ReportLine K first second (verdict_line v.kind v)
        by_kind v texts (inl h) = subst (λ k. ReportLine K first second (verdict_line k v)) (sym h.kind) (alike f.R g.R v texts h)
        by_kind v texts (inr h) = subst (λ k. ReportLine K first second (verdict_line k v)) (sym h.kind) (different f.R g.R v texts h)
