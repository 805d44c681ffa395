use Rattle.std.proofs.Common.{◌++◌, take, flat_map, codes}
use Rattle.std.specs.Fmt.{HasWritten, IsPlainFormatter, decimal}
use Rattle.scripting.proofs.outcomes.WordDisplay.fmt.Given as goal

-- the letters up to here are written, each behind a space
abbrev pub invariant-loop-a : goal.invariant-loop-a
invariant-loop-a g l =
    IsPlainFormatter l.initial.f → HasWritten g.W.Write.write_str_gives l.initial.f (flat_map (λ b. codes " " ++ decimal b) (take l.a-index l.rest)) l.f
