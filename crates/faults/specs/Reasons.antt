-- What a text is refused for, in words. Assumes nothing.
use Rattle.std.specs.Prelude.{ℕ, List, codes}
use Rattle.faults.specs.declared.ColumnFault.{ColumnFault}
use Rattle.faults.specs.declared.LineFault.{LineFault}
use Rattle.faults.specs.declared.LineFault.TheVariants.{Column, Ends, Unexpected, Unended}
use Rattle.faults.specs.declared.LoadFault.{LoadFault}
use Rattle.faults.specs.declared.LoadFault.TheVariants.{Line, Value, Beyond}

-- what a column's fault is, in ASCII
abbrev pub column_reason : ColumnFault → List ℕ
column_reason f = codes "a byte cannot stand in its column"

-- what a line's fault is
abbrev pub line_reason : LineFault → List ℕ
line_reason (Column f) = column_reason f
line_reason (Ends p) = codes "the text ends where a byte is due"
line_reason (Unexpected p) = codes "another kind of line is due"
line_reason (Unended p) = codes "the line should end here"

-- what a text's fault is
abbrev pub load_reason : LoadFault → List ℕ
load_reason (Line f) = line_reason f
load_reason (Value p) = codes "a number is not the one due or not within its limits"
load_reason (Beyond p) = codes "nothing may follow the last line"
