use Rattle.std.proofs.Common.{◌≡◌, ◌*◌, length, take}
use Rattle.columns.specs.Lines.{numbers}
use Rattle.columns.proofs.column.put_numbers.Given as goal

abbrev pub invariant-loop-value : goal.invariant-loop-value
invariant-loop-value g l =
    (goal.iterator-loop-value g).can_next l.value-iterator
    × (goal.iterator-loop-value g).is_finite l.value-iterator
    × (l.at ≡ 11 * length l.yielded)
    × (take l.at l.out ≡ numbers l.yielded)
