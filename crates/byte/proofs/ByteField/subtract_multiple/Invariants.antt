use Rattle.std.proofs.Common.{ℕ, List}
use Rattle.field.specs.Rows.{row_less_multiple}
use Rattle.field.proofs.Rows.{Filled}
use Rattle.byte.specs.declared.Byte.{Byte}
use Rattle.byte.specs.Bytes.{bytes}
use Rattle.byte.proofs.Rows.{value_of}
use Rattle.byte.proofs.ByteField.subtract_multiple.Given as goal

-- the multiple is taken from the first j elements
abbrev Taken : List Byte → Byte → List Byte → ℕ → List Byte → Type 0
Taken row factor other j row' =
    Filled bytes value_of j (row_less_multiple bytes value_of row (value_of factor) other) row row'

abbrev pub invariant-loop-j : goal.invariant-loop-j
invariant-loop-j l = Taken l.fn.row l.factor l.other l.j l.row

abbrev pub invariant-loop-j-2 : goal.invariant-loop-j-2
invariant-loop-j-2 l = Taken l.fn.row l.factor l.other l.j l.row

abbrev pub invariant-loop-j-3 : goal.invariant-loop-j-3
invariant-loop-j-3 l = Taken l.fn.row l.factor l.other l.j l.row
