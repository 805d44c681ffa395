use Rattle.std.proofs.Common.{◌-◌, inr, arith}
use Rattle.reader.proofs.Moves.{errs, ok_or_err}
use Rattle.reader.proofs.Runs.{misfits}
use Rattle.reader.proofs.Reader.element.Goals as goal

pub returns-in_err-code-clause-stops : goal.returns-in_err-code-clause-stops
returns-in_err-code-clause-stops g c = errs _ _ _ c.from_residual.ensures.1 (c.in_err-code.ensures.halts 0 _)

pub returns-in_err-element-clause-stops : goal.returns-in_err-element-clause-stops
returns-in_err-element-clause-stops g c =
    let K = g.F.Field.field in
    let read = c.in_ok-code.ensures.number in
    let beyond = ok_or_err c.from_code.result _ _ _ c.in_err-element.ensures.value c.from_code.ensures.is_decoded_below_order in
    errs _ _ _ c.from_residual-in_err-element.ensures.1 (rw beyond.0 (misfits _ _ _ 0 (K.q - 1) read.0 read.1 (inr (omega (arith, beyond.1, K.q_low)))))
