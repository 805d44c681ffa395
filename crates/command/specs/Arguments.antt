-- What a command line asks for, and what a program then does. Assumes nothing.
use Rattle.std.specs.Prelude.{ℕ, ◌≤◌, vec_len, if◌then◌else◌}
use Rattle.command.specs.declared.arguments.Arguments.{Arguments}
use Rattle.command.specs.declared.arguments.Arguments.TheVariants.{Help, Version, Run}
use Rattle.command.specs.declared.arguments.Options.{Options}
use Rattle.command.specs.declared.status.Status.{Status}
use Rattle.command.specs.declared.status.Status.TheVariants.{Failure, Trouble}

-- it names so many files at most
abbrev pub NamesAtMost : ℕ → Arguments → Type 0
NamesAtMost most Help = Unit {0}
NamesAtMost most Version = Unit {0}
NamesAtMost most (Run options) = vec_len options.files ≤ most

-- where it asks for a run, the program's work may be called with its options
abbrev pub Takes : (Options → Type 0) → Arguments → Type 0
Takes may Help = Unit {0}
Takes may Version = Unit {0}
Takes may (Run options) = may options

-- where it asks for a run, this is what the work may return for its options
abbrev pub Does : {R : Type 0} → (Options → R → Type 0) → Arguments → R → Type 0
Does work Help done = Unit {0}
Does work Version done = Unit {0}
Does work (Run options) done = work options done

-- how the program ends if its work fails
abbrev pub failure_of : Arguments → Status
failure_of Help = Failure
failure_of Version = Failure
failure_of (Run options) = if options.status then Trouble else Failure
