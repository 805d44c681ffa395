-- What comes of a call. Assumes nothing.
use Rattle.std.specs.Prelude.{Result}
use Rattle.book.specs.declared.outcome.Answer.{Answer}
use Rattle.book.specs.declared.refusal.Refusal.{Refusal}

-- it is accepted, with an answer, or refused
abbrev pub Outcome : Type 0
Outcome = Result Answer Refusal
