-- The exit status of a program. Assumes nothing.
use Rattle.std.specs.Prelude.{ℕ, Result, Ok, Err}
use Rattle.command.specs.declared.status.Status.{Status}
use Rattle.command.specs.declared.status.Status.TheVariants.{Success, Failure, Trouble}

-- the number of each
abbrev pub status_number : Status → ℕ
status_number Success = 0
status_number Failure = 1
status_number Trouble = 2

-- the exit status of a program whose work came to this; `by_error` is how it ends after an error
abbrev pub status_of : {E : Type 0} → Status → Result Status E → ℕ
status_of by_error (Ok status) = status_number status
status_of by_error (Err e) = status_number by_error
