use Rattle.reader.proofs.Moves.{errs, number_broken}
use Rattle.reader.proofs.Reader.number.Goals as goal

pub returns-in_err-value-clause-halts : goal.returns-in_err-value-clause-halts
returns-in_err-value-clause-halts c =
    errs _ _ _ c.from_residual-in_err-value.ensures.1 (λ low high. number_broken _ _ _ low high _ c.in-Some.ensures.cases.0 c.in_err-value.ensures.first_broken)
