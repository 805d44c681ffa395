-- What the values of the code stand for. Assumes nothing.
use Rattle.std.specs.Prelude.{ℕ, List, length, replicate, Some, None, Ok, Err, Option, Result}
use Rattle.search.specs.declared.compare.Comparison.{Comparison}
use Rattle.search.specs.declared.compare.Comparison.TheVariants.{Alike, Differs}
use Rattle.book.specs.Shelves.{Entry, empty, filled, Shelf, Lent, State}
use Rattle.book.specs.declared.refusal.Refusal.{Refusal}
use Rattle.book.specs.declared.verdict.Kind.TheVariants as kinds
use Rattle.book.specs.declared.verdict.Verdict.{Verdict}
use Rattle.book.specs.declared.outcome.Answer.{Answer}
use Rattle.book.specs.declared.outcome.Answer.TheVariants.{Done}
use Rattle.book.specs.Outcomes.{Outcome}
use Rattle.rows.specs.declared.table.Shape.{Shape}

-- an entry by the shape that it holds, if it holds one
abbrev pub entry_of : Option Shape → Entry
entry_of None = empty
entry_of (Some z) = filled z.states z.letters

-- a shelf: the directory's entries and shelf memory
abbrev pub shelf_of : {F : Type 0} → List Entry → List F → Shelf F
shelf_of entries memory = record { entries = entries; memory = memory }

-- all that a call is handed: entries, shelf memory, how many elements of work memory, output and
-- verdict record
abbrev pub state : {F : Type 0} → List Entry → List F → ℕ → List ℕ → Verdict → State F
state entries memory work output verdict =
    record {
      shelf = shelf_of entries memory;
      lent = record { work = work; output = output; verdict = verdict };
    }

-- what is lent besides work memory
abbrev pub lent_besides : List ℕ → Verdict → Lent
lent_besides output verdict = record { work = 0; output = output; verdict = verdict }

-- the state of a function that is handed entries, shelf memory and work memory, by what else is
-- lent
abbrev pub work_state : {F : Type 0} → List Entry → List F → List F → Lent → State F
work_state entries memory work rest = state entries memory (length work) rest.output rest.verdict

-- the same where the function is handed a verdict record too
abbrev pub verdict_state : {F : Type 0} → List Entry → List F → List F → Verdict → Lent → State F
verdict_state entries memory work verdict rest =
    state entries memory (length work) rest.output verdict

-- the same where it is handed an output, and no work memory
abbrev pub output_state : {F : Type 0} → List Entry → List F → List ℕ → Lent → State F
output_state entries memory output rest = state entries memory rest.work output rest.verdict

-- what comes of a call, by what the function returns; `answer` makes an answer of what it
-- returns when it is not refused
abbrev pub outcome_by : {T : Type 0} → (T → Answer) → Result T Refusal → Outcome
outcome_by answer (Ok x) = Ok (answer x)
outcome_by answer (Err r) = Err r

-- the same of a function that returns nothing
abbrev pub outcome_of : Result (Unit {0}) Refusal → Outcome
outcome_of r = outcome_by (λ _. Done) r

-- the verdict record of a comparison
abbrev pub verdict_on : Comparison → Verdict
verdict_on (Alike tried kept) =
    record {
      kind = kinds.Alike;
      tried = tried;
      kept = kept;
      length = 0;
      first = 0;
      second = 0;
      letters = replicate 31 0;
    }
verdict_on (Differs word tried left right) =
    record {
      kind = kinds.Differs;
      tried = tried;
      kept = 0;
      length = word.length;
      first = left;
      second = right;
      letters = word.letters;
    }
