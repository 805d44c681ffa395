use Rattle.std.proofs.Common.{◌+◌, length, vec_items}
use Rattle.scripting.specs.Closing.{lines_of, Passed, PerformsOver}
use Rattle.scripting.proofs.performing.perform_over.Given as goal

-- the lines are performed up to what closes the last shelf
abbrev pub invariant-loop-close : goal.invariant-loop-close
invariant-loop-close g l = record {
  performs : PerformsOver g.F.Field.field g.F.Field.value l.fn.elements l.fn.rest.given l.fn.rest.lines.now l.close l.rest.given l.rest.lines.now (vec_items l.fn.shown) (vec_items l.shown);
  passed : Passed l.close l.fn.rest.lines.now l.rest.lines.now;
}

abbrev pub decreases-loop-close : goal.decreases-loop-close
decreases-loop-close g l = length l.rest.lines.now + lines_of l.close
