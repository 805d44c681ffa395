use Rattle.std.proofs.Common.{◌≡◌, take, vec_items}
use Rattle.scripting.specs.Mistakes.{mistakes_of}
use Rattle.scripting.proofs.reading.Script.mistakes.Given as goal

abbrev pub invariant-loop-line : goal.invariant-loop-line
invariant-loop-line l = vec_items l.all ≡ mistakes_of (take l.line-index l.line-items)
