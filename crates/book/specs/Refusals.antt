-- The number of each refusal, and its line and column. Assumes nothing.
use Rattle.std.specs.Prelude.{ℕ}
use Rattle.faults.specs.Refusals.{load_refusal, load_position}
use Rattle.book.specs.declared.refusal.Refusal.{Refusal}
use Rattle.book.specs.declared.refusal.Refusal.TheVariants.{PlaceOutside, MemoryShort, WorkShort, PlaceEmpty, LettersDiffer, StatesOver, LetterOutside, CodeOutside, OutputShort, Unreadable}

-- 1: a place is outside 1 to 8; 2: shelf memory is short; 3: work memory is short; 4: a place to be
-- read or cleared is empty; 5: two letter counts differ; 6: the result has over 16 states; 7: a letter
-- is outside 1 to k; 8: a code is q or more; 9: the output is short; 10 to 15: the text is unreadable
abbrev pub refusal_number : Refusal → ℕ
refusal_number PlaceOutside = 1
refusal_number MemoryShort = 2
refusal_number WorkShort = 3
refusal_number PlaceEmpty = 4
refusal_number LettersDiffer = 5
refusal_number StatesOver = 6
refusal_number (LetterOutside position) = 7
refusal_number CodeOutside = 8
refusal_number OutputShort = 9
refusal_number (Unreadable fault) = load_refusal fault

-- the line and column, each from 1, of an unreadable text's fault; (0, 0) for every other refusal
abbrev pub refusal_position : Refusal → ℕ × ℕ
refusal_position PlaceOutside = (0, 0)
refusal_position MemoryShort = (0, 0)
refusal_position WorkShort = (0, 0)
refusal_position PlaceEmpty = (0, 0)
refusal_position LettersDiffer = (0, 0)
refusal_position StatesOver = (0, 0)
refusal_position (LetterOutside position) = (0, 0)
refusal_position CodeOutside = (0, 0)
refusal_position OutputShort = (0, 0)
refusal_position (Unreadable fault) = load_position fault
