-- Outcomes of calls in words, in ASCII. Assumes nothing.
use Rattle.std.specs.Prelude.{ℕ, List, [], ◌∷◌, ◌++◌, codes, flat_map, Ok, Err}
use Rattle.std.specs.Fmt.{decimal}
use Rattle.faults.specs.Refusals.{load_position}
use Rattle.book.specs.Outcomes.{Outcome}
use Rattle.book.specs.Reasons.{refusal_reason}
use Rattle.book.specs.Refusals.{refusal_number}
use Rattle.book.specs.Verdicts.{reported}
use Rattle.book.specs.declared.outcome.Answer.{Answer}
use Rattle.book.specs.declared.outcome.Answer.TheVariants.{Done, Code, Told, Count}
use Rattle.book.specs.declared.refusal.Refusal.{Refusal}
use Rattle.book.specs.declared.refusal.Refusal.TheVariants.{PlaceOutside, MemoryShort, WorkShort, PlaceEmpty, LettersDiffer, StatesOver, LetterOutside, CodeOutside, OutputShort, Unreadable}
use Rattle.book.specs.declared.verdict.Kind.{Kind}
use Rattle.book.specs.declared.verdict.Kind.TheVariants.{Alike, Differs, Other}
use Rattle.book.specs.declared.verdict.Verdict.{Verdict}

-- a word: its letters with a space between
abbrev pub word_text : List ℕ → List ℕ
word_text [] = codes "the empty word"
word_text (a ∷ word) = decimal a ++ flat_map (λ b. codes " " ++ decimal b) word

-- a verdict that reports a word
abbrev pub differing_text : Verdict → List ℕ
differing_text v =
    codes "differs at " ++ word_text (reported v)
    ++ codes ", weighs " ++ decimal v.first ++ codes " and " ++ decimal v.second
    ++ codes ", " ++ decimal v.tried ++ codes " tried"

-- a verdict by its kind
abbrev pub text_by_kind : Kind → Verdict → List ℕ
text_by_kind Alike v = codes "alike, " ++ decimal v.tried ++ codes " tried, " ++ decimal v.kept ++ codes " kept"
text_by_kind Differs v = differing_text v
text_by_kind (Other number) v = differing_text v

-- what compare found
abbrev pub verdict_text : Verdict → List ℕ
verdict_text v = text_by_kind v.kind v

-- what an accepted call returned
abbrev pub answer_text : Answer → List ℕ
answer_text Done = codes "done"
answer_text (Code code) = decimal code
answer_text (Told verdict) = verdict_text verdict
answer_text (Count count) = decimal count ++ codes " bytes"

-- where what is refused stands: a position in a word, or a line and a column of a text
abbrev pub where_text : Refusal → List ℕ
where_text PlaceOutside = []
where_text MemoryShort = []
where_text WorkShort = []
where_text PlaceEmpty = []
where_text LettersDiffer = []
where_text StatesOver = []
where_text (LetterOutside position) = codes " at position " ++ decimal position
where_text CodeOutside = []
where_text OutputShort = []
where_text (Unreadable fault) = codes " at line " ++ decimal (load_position fault).0 ++ codes ", column " ++ decimal (load_position fault).1

-- a refusal by its number, where what is refused stands, and the reason
abbrev pub refusal_text : Refusal → List ℕ
refusal_text r = codes "refused " ++ decimal (refusal_number r) ++ where_text r ++ codes ", " ++ refusal_reason r

-- what came of a call
abbrev pub outcome_text : Outcome → List ℕ
outcome_text (Ok answer) = answer_text answer
outcome_text (Err refusal) = refusal_text refusal
