use Rattle.report.proofs.Begins.{begins_output}
use Rattle.report.proofs.report_over.Goals as goal

pub returns : goal.returns
returns g c = record {
  reports = c.tell.ensures.reports;
  at_most_387 = c.tell.ensures.at_most;
  q_exactly_where_alike = begins_output g.F.Field.field c.args.first.now c.args.second.now 81 c.q_where_alike.ensures.exactly c.args.out.now c.tell.new.out c.tell.result c.tell.ensures.reports;
  one_line = c.one_line.ensures.one;
}
