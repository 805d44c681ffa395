use Rattle.std.proofs.Common.{◌≡◌, ◌++◌, drop}
use Rattle.columns.proofs.Begun.{begun}
use Rattle.columns.proofs.column.put_number.Given as goal

abbrev pub invariant-loop-i : goal.invariant-loop-i
invariant-loop-i l = begun 11 l.value ≡ begun l.i l.rest ++ drop l.i l.columns
