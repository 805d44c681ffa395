use Rattle.reader.specs.Steps.{SameLine}
use Rattle.reader.proofs.Runs.{Matched}
use Rattle.text.proofs.lines.exactly.Given as goal

abbrev pub invariant-loop-value : goal.invariant-loop-value
invariant-loop-value l = Matched l.initial.reader l.reader l.values l.value-index × SameLine l.initial.reader l.reader
