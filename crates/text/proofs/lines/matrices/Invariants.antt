use Rattle.std.proofs.Common.{◌-◌, ◌*◌}
use Rattle.reader.specs.Steps.{RowsDue}
use Rattle.text.specs.Rows.{codes_of}
use Rattle.text.proofs.Rows.{Lined}
use Rattle.text.proofs.lines.matrices.Given as goal

abbrev pub invariant-loop-j : goal.invariant-loop-j
invariant-loop-j g l = Lined l.initial.reader l.reader l.shape.states (g.F.Field.field.q - 1) (codes_of g.F.Field.field g.F.Field.value l.elements) l.j × RowsDue l.reader (l.shape.letters * l.shape.states - l.j)
