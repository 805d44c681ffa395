-- Why a call is refused, in words. Assumes nothing.
use Rattle.std.specs.Prelude.{ℕ, List, codes}
use Rattle.faults.specs.Reasons.{load_reason}
use Rattle.book.specs.declared.refusal.Refusal.{Refusal}
use Rattle.book.specs.declared.refusal.Refusal.TheVariants.{PlaceOutside, MemoryShort, WorkShort, PlaceEmpty, LettersDiffer, StatesOver, LetterOutside, CodeOutside, OutputShort, Unreadable}

-- the reason, in ASCII
abbrev pub refusal_reason : Refusal → List ℕ
refusal_reason PlaceOutside = codes "a place is outside 1 to 8"
refusal_reason MemoryShort = codes "shelf memory is too short"
refusal_reason WorkShort = codes "work memory is too short"
refusal_reason PlaceEmpty = codes "a place is empty"
refusal_reason LettersDiffer = codes "the letter counts differ"
refusal_reason StatesOver = codes "the result has over 16 states"
refusal_reason (LetterOutside position) = codes "a letter is outside the table's letters"
refusal_reason CodeOutside = codes "the code is not one of the field's"
refusal_reason OutputShort = codes "the output is too short"
refusal_reason (Unreadable fault) = load_reason fault
