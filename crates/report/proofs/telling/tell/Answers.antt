use Rattle.std.proofs.Common.{◌++◌, drop, sym, ap, ◌∙◌, subst₂, arith}
use Rattle.report.specs.Reports.{Reports, no_room, written}
use Rattle.report.specs.Findings.{finding_line}
use Rattle.report.proofs.Fronts.{front_of_whole}
use Rattle.report.proofs.telling.tell.Goals as goal

pub returns-in_default : goal.returns-in_default
returns-in_default g c = record { reports = no_room c.in_default.ensures.cases; at_most = omega arith }

pub returns : goal.returns
returns g c =
    let K = g.F.Field.field in
    let a = c.args.first.now in
    let b = c.args.second.now in
    let out = c.args.out.now in
    let l = finding_line c.find-finding.result in
    let h = c.put_finding.ensures.line_in_front in
    let front = c.in-Some.ensures.cases in
    let whole = front_of_whole l out c.put_finding.new.out 387 c.put_finding.result c.put_finding.ensures.at_most front.enough (h.written ∙ ap (λ x. l ++ drop c.put_finding.result x) front.same) in
    record {
      reports = subst₂ (Reports K a b out) (sym h.counted) (ap (λ n. l ++ drop n out) (sym h.counted) ∙ sym whole) (written l front.enough c.find-finding.ensures.reports);
      at_most = c.put_finding.ensures.at_most;
    }
