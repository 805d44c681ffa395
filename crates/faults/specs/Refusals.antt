-- The number of each fault, and the line and column that it reports. Assumes nothing.
use Rattle.std.specs.Prelude.{ℕ}
use Rattle.faults.specs.declared.Position.{Position}
use Rattle.faults.specs.declared.ColumnFault.{ColumnFault}
use Rattle.faults.specs.declared.LineFault.{LineFault}
use Rattle.faults.specs.declared.LineFault.TheVariants.{Column, Ends, Unexpected, Unended}
use Rattle.faults.specs.declared.LoadFault.{LoadFault}
use Rattle.faults.specs.declared.LoadFault.TheVariants.{Line, Value, Beyond}

-- a position as a pair: the line and the column, each from 1
abbrev pub line_and_column : Position → ℕ × ℕ
line_and_column p = (p.line, p.column)

-- the line and column of a column's fault
abbrev pub column_position : ColumnFault → ℕ × ℕ
column_position f = line_and_column f.position

-- those of a line's fault
abbrev pub line_position : LineFault → ℕ × ℕ
line_position (Column f) = column_position f
line_position (Ends p) = line_and_column p
line_position (Unexpected p) = line_and_column p
line_position (Unended p) = line_and_column p

-- those of a text's fault
abbrev pub load_position : LoadFault → ℕ × ℕ
load_position (Line f) = line_position f
load_position (Value p) = line_and_column p
load_position (Beyond p) = line_and_column p

-- 12: a byte cannot stand in its column
abbrev pub column_refusal : ColumnFault → ℕ
column_refusal f = 12

-- 10: the text ends where a byte is due; 11: a first byte is not the kind due; 14: a byte other than 10 follows the last column
abbrev pub line_refusal : LineFault → ℕ
line_refusal (Column f) = column_refusal f
line_refusal (Ends p) = 10
line_refusal (Unexpected p) = 11
line_refusal (Unended p) = 14

-- 13: a number is not the one due, or not within its limits; 15: bytes follow the last line
abbrev pub load_refusal : LoadFault → ℕ
load_refusal (Line f) = line_refusal f
load_refusal (Value p) = 13
load_refusal (Beyond p) = 15
