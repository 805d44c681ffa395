use Rattle.std.proofs.Common.{◌+◌, [], length, vec_items}
use Rattle.scripting.specs.Closing.{opened, lines_of, Performs}
use Rattle.scripting.proofs.performing.perform.Given as goal

-- the lines are performed up to what closes the last shelf
abbrev pub invariant-loop-opening : goal.invariant-loop-opening
invariant-loop-opening l = Performs (record { field = l.fn.field; elements = 12544 }) (record { work = 8192; output = 19593 }) (vec_items l.script.lines) (opened l.opening.field l.close) l.rest.given l.rest.lines.now [] (vec_items l.shown)

abbrev pub decreases-loop-opening : goal.decreases-loop-opening
decreases-loop-opening l = length l.rest.lines.now + lines_of l.close
