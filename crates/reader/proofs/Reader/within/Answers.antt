use Rattle.std.proofs.Common.{rules}
use Rattle.reader.proofs.Moves.{errs}
use Rattle.reader.proofs.Runs.{misfits}
use Rattle.reader.proofs.Reader.within.Goals as goal

pub returns-in_err-found-clause-stops : goal.returns-in_err-found-clause-stops
returns-in_err-found-clause-stops c = errs _ _ _ c.from_residual.ensures.1 (c.in_err-found.ensures.halts c.args.low c.args.high)

pub returns-then-not-contains-clause-stops : goal.returns-then-not-contains-clause-stops
returns-then-not-contains-clause-stops c = let read = c.in_ok-found.ensures.number in misfits _ _ _ _ _ read.0 read.1 (search rules)
