-- The kinds of lines, and which is due after which. Assumes nothing.
use Rattle.std.specs.Prelude.{ℕ, zero, suc, ◌^◌, ◌<◌, List, [], ◌∷◌, ◌++◌, Option}
use Rattle.std.specs.Iterator.{AlwaysYields}
use Rattle.std.specs.List.{flat_map, AllByRecursion}
use Rattle.columns.specs.Numbers.{number}
use Rattle.columns.specs.declared.line.Kind.{Kind}
use Rattle.columns.specs.declared.line.Kind.TheVariants as kind
use Rattle.columns.specs.declared.line.Due.{Due}
use Rattle.columns.specs.declared.line.Due.TheVariants.{Table, Start, Matrix, End, Close, Nothing}

-- the first byte of a line of each kind: T, S, M, E, Z
abbrev pub letter : Kind → ℕ
letter kind.Table = 84
letter kind.Start = 83
letter kind.Matrix = 77
letter kind.End = 69
letter kind.Close = 90

-- the first byte of the line due; 256, which is no byte, where none is
abbrev pub due_letter : Due → ℕ
due_letter Table = letter kind.Table
due_letter Start = letter kind.Start
due_letter Matrix = letter kind.Matrix
due_letter End = letter kind.End
due_letter Close = letter kind.Close
due_letter Nothing = 256

-- the line due while `rows` matrix lines are left
abbrev pub row_due : ℕ → Due
row_due zero = End
row_due (suc rows) = Matrix

-- the line due after the one due, which `rows` matrix lines follow
abbrev pub next : ℕ → Due → Due
next rows Table = Start
next rows Start = row_due rows
next rows Matrix = row_due rows
next rows End = Close
next rows Close = Nothing
next rows Nothing = Nothing

-- the numbers of a line, one after another
abbrev pub numbers : List ℕ → List ℕ
numbers vs = flat_map number vs

-- each has at most ten digits
abbrev pub TenDigits : List ℕ → Type 0
TenDigits vs = AllByRecursion (λ v. v < 10 ^ 10) vs

-- an iterator gives just these numbers, and then ends
abbrev pub Gives : {S : Type 0} → (S → Option ℕ → S → Type 0) → S → List ℕ → Type 0
Gives steps s vs = AlwaysYields steps (λ v. v) s vs

-- a line: its first byte, its numbers, and byte 10
abbrev pub line : ℕ → List ℕ → List ℕ
line first vs = first ∷ (numbers vs ++ 10 ∷ [])
