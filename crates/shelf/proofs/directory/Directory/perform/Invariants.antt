use Rattle.std.proofs.Common.{◌≡◌, length, take, drop}
use Rattle.book.specs.Running.{Run}
use Rattle.shelf.specs.Views.{state}
use Rattle.shelf.proofs.directory.Directory.perform.Given as goal

abbrev pub invariant-loop-i : goal.invariant-loop-i
invariant-loop-i g l =
    Run g.F.Field.field g.F.Field.value (state l.initial.self l.initial.shelf (length l.initial.work) l.initial.output l.initial.verdict) (take l.i l.asked) (take l.i l.outcomes) (state l.self l.shelf (length l.work) l.output l.verdict)
    × (drop l.i l.outcomes ≡ drop l.i l.initial.outcomes)
