use Rattle.std.proofs.Common.{◌≡◌, ◌++◌, ◌≤◌, List, [], ℕ, length, vec_items}
use Rattle.shelf.specs.Views.{state}
use Rattle.scripting.specs.Performing.{Makes, Shows}
use Rattle.scripting.specs.declared.performing.Opening.{Opening}
use Rattle.scripting.specs.declared.performing.Task.{Task}
use Rattle.scripting.proofs.performing.perform_on.Given as goal

-- the calls up to here are made
abbrev pub invariant-loop-task : goal.invariant-loop-task
invariant-loop-task g l = record {
  tasks : List Task;
  text : List ℕ;
  makes : Makes g.F.Field.field g.F.Field.value (state l.initial.directory l.initial.shelf (length l.initial.work) l.initial.output l.initial.verdict) tasks (state l.directory l.shelf (length l.work) l.output l.verdict) text;
  added : vec_items l.shown ≡ vec_items l.initial.shown ++ text;
  within : length l.rest.lines.now ≤ length l.initial.rest.lines.now;
  onward : (o : Opening) (more : List ℕ) → Shows o l.rest.given tasks l.rest.lines.now more → Shows o l.initial.rest.given [] l.initial.rest.lines.now more;
}

abbrev pub decreases-loop-task : goal.decreases-loop-task
decreases-loop-task g l = length l.rest.lines.now
