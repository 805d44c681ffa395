use Rattle.std.proofs.Common.{◌∙◌, arith}
use Rattle.std.proofs.lemmas.Option.{MatchOption-at_some}
use Rattle.reader.proofs.Moves.{errs, no_head, no_kind, or_err}
use Rattle.reader.proofs.Reader.head.Goals as goal

pub returns-in_err-kind-clause-halts : goal.returns-in_err-kind-clause-halts
returns-in_err-kind-clause-halts c =
    let parts = MatchOption-at_some _ _ _ c.in_ok-letter.ensures.ok_part c.split_first.ensures.cases in
    let h = or_err c.try_from.result _ _ _ c.in_err-kind.ensures c.try_from.ensures in
    errs _ _ _ c.from_residual-in_err-kind.ensures.1 (rw h.0 (no_head _ _ _ _ parts.0 _ (λ e. no_kind _ (omega arith) h.1 c.args.self.now.due (c.from.ensures ∙ e))))
