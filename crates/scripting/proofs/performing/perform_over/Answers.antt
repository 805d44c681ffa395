use Rattle.std.proofs.Common.{ap, arith}
use Rattle.scripting.specs.Closing.{opened}
use Rattle.scripting.proofs.Shelves.{further}
use Rattle.scripting.proofs.performing.perform_over.Goals as goal

pub loop-close-preserved : goal.loop-close-preserved
loop-close-preserved g c = record {
  performs = λ f over. further (ap (opened f) c.in-Open.is) (c.loop-close.invariant.performs f over) (c.in_ok-close-2.ensures.performs f over);
  passed = omega (arith, c.loop-close.invariant.passed, c.in_ok-close-2.ensures.passed);
}
