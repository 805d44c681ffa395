-- What a step of the reader reads, and which line is due after it. Assumes nothing.
use Rattle.std.specs.Prelude.{◌≡◌, ℕ, ◌+◌, ◌-◌, ◌<◌, List, ◌++◌}
use Rattle.columns.specs.Lines.{next, row_due, line}
use Rattle.columns.specs.declared.line.Due.{Due}
use Rattle.columns.specs.declared.line.Due.TheVariants.{Table}
use Rattle.reader.specs.Items.{Item, close, along, after, Halts, Stopped, Stops}
use Rattle.faults.specs.declared.Position.{Position}
use Rattle.faults.specs.declared.LineFault.{LineFault}
use Rattle.faults.specs.declared.LoadFault.{LoadFault}
use Rattle.reader.specs.declared.Reader.{Reader}

-- what is left of the text
abbrev pub left : Reader → List ℕ
left r = r.rest.now

-- this line is due, and so many matrix lines follow it
pub record Expects (r : Reader) (line : Due) (count : ℕ) : Type 0 where
  pub due : r.due ≡ line
  pub rows : r.rows ≡ count

-- the reader moved on to the line due after the one that was due
abbrev pub Turned : Reader → Reader → Type 0
Turned r s = Expects s (next r.rows r.due) (r.rows - 1)

-- so many matrix lines are due, and then the end line
abbrev pub RowsDue : Reader → ℕ → Type 0
RowsDue r rows = Expects r (row_due rows) (rows - 1)

-- the same line is due
abbrev pub SameLine : Reader → Reader → Type 0
SameLine r s = Expects s r.due r.rows

-- the reader stands at the start of the text
pub record Starts (r : Reader) (text : List ℕ) : Type 0 where
  pub whole : left r ≡ text
  pub position : r.position ≡ record { line = 1; column = 1 }
  pub expects : Expects r Table 0

-- the reader can go on: no count is near its limit
pub record Able (r : Reader) : Type 0 where
  pub line : r.position.line < 10000
  pub column : r.position.column < 10000

-- the reader stands at the start of a line before line n
pub record AtLine (r : Reader) (n : ℕ) : Type 0 where
  pub line : r.position.line < n
  pub start : r.position.column ≡ 1

-- from r to s the reader read these bytes, and it stands at the position p
pub record Went (r s : Reader) (bs : List ℕ) (p : Position) : Type 0 where
  pub over : left r ≡ bs ++ left s
  pub position : s.position ≡ p

-- it read bytes that are n columns of one line
abbrev pub WentAlong : Reader → Reader → List ℕ → ℕ → Type 0
WentAlong r s bs n = Went r s bs (along r.position n)

-- it read a line of this first byte and these numbers
abbrev pub WentLine : Reader → Reader → ℕ → List ℕ → Type 0
WentLine r s first vs = Went r s (line first vs) (after close r.position)

-- it read bytes that are n lines, and stands at the start of the next line
abbrev pub WentLines : Reader → Reader → List ℕ → ℕ → Type 0
WentLines r s bs n = Went r s bs (record { line = r.position.line + n; column = 1 })

-- the fault of a line, or of a text, that stops in an item where the reader stands
abbrev pub HaltsAt : Reader → Item → LineFault → Type 0
HaltsAt r item f = Halts item r.position (left r) f

abbrev pub StoppedAt : Reader → Item → LoadFault → Type 0
StoppedAt r item f = Stopped item r.position (left r) f

-- the fault of a text that stops in one of the items
abbrev pub StopsAt : Reader → List Item → LoadFault → Type 0
StopsAt r items f = Stops items r.position (left r) f
