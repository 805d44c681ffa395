use Rattle.std.proofs.Common.{length}
use Rattle.scripting.proofs.Shelves.{Passes}
use Rattle.scripting.proofs.performing.Rest.next.Given as goal

-- lines are passed over up to here
abbrev pub invariant-loop-self : goal.invariant-loop-self
invariant-loop-self l = Passes l.initial.self.given l.initial.self.lines.now l.self.given l.self.lines.now

abbrev pub decreases-loop-self : goal.decreases-loop-self
decreases-loop-self l = length l.self.lines.now
