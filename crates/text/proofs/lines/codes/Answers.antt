use Rattle.std.proofs.Common.{◌-◌, arith}
use Rattle.std.proofs.lemmas.List.{length-map}
use Rattle.text.specs.Rows.{codes_of}
use Rattle.text.proofs.Codes.{high_small, element_more}
use Rattle.reader.proofs.Moves.{errs}
use Rattle.reader.proofs.Runs.{rowed_stops, expects_on}
use Rattle.text.proofs.lines.codes.Goals as goal

pub returns-in_err-x-clause-stops : goal.returns-in_err-x-clause-stops
returns-in_err-x-clause-stops g c =
    let K = g.F.Field.field in
    let value = g.F.Field.value in
    let long = length-map c.loop-x.elements (λ x. K.code (value x)) in
    errs _ _ _ c.from_residual.ensures.1 (rowed_stops c.args.reader.now c.loop-x.reader (codes_of K value c.loop-x.elements) c.loop-x.x-index _ (K.q - 1) _ (high_small K value) (omega arith) (omega arith) c.loop-x.invariant.0 c.in_err-x.ensures.stops)

pub loop-x-preserved : goal.loop-x-preserved
loop-x-preserved g c = (element_more g.F.Field.field g.F.Field.value _ _ _ _ _ _ (omega arith) c.loop-x.invariant.0 c.in_ok-x.ensures.element, expects_on _ _ _ _ c.loop-x.invariant.1 c.in_ok-x.ensures.same_line)
