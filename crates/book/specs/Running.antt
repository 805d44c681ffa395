-- A list of calls on one shelf, to which work memory, output and verdict record are lent once. Assumes nothing.
use Rattle.std.specs.Prelude.{◌≡◌, min, List, [], ◌∷◌, ◌++◌, take, drop}
use Rattle.field.specs.FiniteField.{FiniteField}
use Rattle.book.specs.Shelves.{State}
use Rattle.book.specs.Calls.{Call, call_of}
use Rattle.book.specs.Doing.{Does}
use Rattle.book.specs.declared.call.Request.{Request}
use Rattle.book.specs.Outcomes.{Outcome}

-- the call that is requested
abbrev pub call_in : Request → Call
call_in r = call_of r.call

-- what the requested call is handed: of work memory and output as much of the front as it is given
abbrev pub given : {F : Type 0} → State F → Request → State F
given s r =
    record {
      shelf = s.shelf;
      lent = record {
        work = min r.work s.lent.work;
        output = take r.output s.lent.output;
        verdict = s.lent.verdict;
      };
    }

-- the whole again, once the call has left t: behind the front that it was given the output is as before
abbrev pub taken_back : {F : Type 0} → State F → Request → State F → State F
taken_back s r t =
    record {
      shelf = t.shelf;
      lent = record {
        work = s.lent.work;
        output = t.lent.output ++ drop r.output s.lent.output;
        verdict = t.lent.verdict;
      };
    }

module _ {V : Type 0} (K : FiniteField V) {F : Type 0} (value : F → V) where
  -- the requested call does what is defined for it with what it is given, and the rest of what was
  -- lent is as before
  pub record CarriesOut (s : State F) (r : Request) (o : Outcome) (t : State F) : Type 0 where
    pub left : State F
    pub does : Does K value (given s r) (call_in r) o left
    pub back : t ≡ taken_back s r left

  -- the requested calls, made one after another, and what came of each
  pub data Run (first : State F) : List Request → List Outcome → State F → Type 0 where
    none : Run first [] [] first
    next : {rs : List Request} {os : List Outcome} {s : State F} → Run first rs os s
        → (r : Request) (o : Outcome) (t : State F) → CarriesOut s r o t
        → Run first (rs ++ r ∷ []) (os ++ o ∷ []) t
