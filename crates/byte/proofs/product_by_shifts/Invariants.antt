use Rattle.std.specs.Prelude.{bit_xor}
use Rattle.std.proofs.Common.{◌≡◌, ◌-◌, ◌<◌}
use Rattle.byte.specs.Product.{partial, product}
use Rattle.byte.proofs.product_by_shifts.Given as goal

abbrev pub invariant-loop-i : goal.invariant-loop-i
invariant-loop-i l = (l.x < 256) × (bit_xor l.sum (partial (8 - l._i) l.x l.y) ≡ product l.initial.x l.initial.y)
