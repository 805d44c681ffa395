use Rattle.std.proofs.Common.{arith}
use Rattle.reader.proofs.Moves.{errs}
use Rattle.reader.proofs.Runs.{matched_stops}
use Rattle.text.proofs.lines.exactly.Goals as goal

pub returns-in_err-within-clause-stops : goal.returns-in_err-within-clause-stops
returns-in_err-within-clause-stops c = errs _ _ _ c.from_residual.ensures.1 (matched_stops _ _ _ _ _ (omega arith) c.loop-value.invariant.0 c.in_err-within.ensures.stops)
