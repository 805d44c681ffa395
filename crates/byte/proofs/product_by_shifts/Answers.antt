use Rattle.std.proofs.Common.{sym, ◌∙◌, arith}
use Rattle.byte.specs.Proofs.Laws.{bit_lt}
use Rattle.byte.proofs.Shifts.{shifted_lt, turn, start, ends}
use Rattle.byte.proofs.product_by_shifts.Goals as goal

pub overflow_mul-sum : goal.overflow_mul-sum
overflow_mul-sum c = record { fits = bit_lt c.loop-i.y c.loop-i.x c.loop-i.invariant.0 }

pub loop-i-init : goal.loop-i-init
loop-i-init c = (omega arith, start c.args.a c.args.b)

pub loop-i-preserved : goal.loop-i-preserved
loop-i-preserved c = (
  shifted_lt c.loop-i.x c.loop-i.invariant.0,
  turn c.loop-i._i c.loop-i.sum c.loop-i.x c.loop-i.y (omega arith) c.loop-i.invariant.0 ∙ c.loop-i.invariant.1,
)

pub returns : goal.returns
returns c = record {
  is_product = sym (ends c.loop-i._i c.loop-i.sum c.loop-i.x c.loop-i.y (omega arith)) ∙ c.loop-i.invariant.1;
}
