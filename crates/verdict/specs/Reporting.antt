-- The report over each field that is offered, and the exit status that it stands for. Assumes nothing.
use Rattle.std.specs.Prelude.{ℕ, List, slice_index, ◌==◌, if◌then◌else◌}
use Rattle.residue.specs.Delivered.{bits, fermat}
use Rattle.byte.specs.Bytes.{bytes}
use Rattle.command.specs.declared.field_choice.FieldChoice.{FieldChoice}
use Rattle.command.specs.declared.field_choice.FieldChoice.TheVariants.{Bits, Bytes, Fermat}
use Rattle.command.specs.declared.status.Status.{Status}
use Rattle.command.specs.declared.status.Status.TheVariants.{Success, Failure, Trouble}
use Rattle.report.specs.Reports.{Reports}

-- what becomes of an output, and how many bytes are written, over the field
abbrev pub ReportsOver : FieldChoice → (first second output : List ℕ) → ℕ → List ℕ → Type 0
ReportsOver Bits = Reports bits
ReportsOver Bytes = Reports bytes
ReportsOver Fermat = Reports fermat

-- how the program ends under --status, by the first byte of the line: Q, D or another
abbrev pub status_by : List ℕ → Status
status_by line = if slice_index line 0 == 81 then Success else if slice_index line 0 == 68 then Failure else Trouble
