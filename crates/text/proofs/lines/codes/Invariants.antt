use Rattle.std.proofs.Common.{◌-◌}
use Rattle.reader.specs.Steps.{SameLine}
use Rattle.text.specs.Rows.{codes_of}
use Rattle.reader.proofs.Runs.{Rowed}
use Rattle.text.proofs.lines.codes.Given as goal

abbrev pub invariant-loop-x : goal.invariant-loop-x
invariant-loop-x g l = Rowed l.initial.reader l.reader (codes_of g.F.Field.field g.F.Field.value l.elements) l.x-index (g.F.Field.field.q - 1) × SameLine l.initial.reader l.reader
