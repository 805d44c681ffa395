use Rattle.std.proofs.Common.{refl, arith}
use Rattle.columns.proofs.Begun.{reached_none, reached_more, reached_broken, reached_held}
use Rattle.columns.proofs.column.scan.Goals as goal

pub loop-i-init : goal.loop-i-init
loop-i-init c = reached_none _

pub returns-in_default-clause-first_broken : goal.returns-in_default-clause-first_broken
returns-in_default-clause-first_broken c = (c.loop-i.i, refl, reached_broken _ _ _ c.loop-i.invariant (omega arith) (omega arith) c.in_default.ensures.extended)

pub loop-i-preserved : goal.loop-i-preserved
loop-i-preserved c = reached_more _ _ _ _ c.loop-i.invariant (omega arith) (omega arith) c.in-Some.ensures.extended

pub returns-clause-held : goal.returns-clause-held
returns-clause-held c = reached_held _ _ _ c.loop-i.invariant (omega arith) (omega arith)
