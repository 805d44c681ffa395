use Rattle.verdict.proofs.report_offered.Goals as goal

pub returns-in-Bits-clause-reports : goal.returns-in-Bits-clause-reports
returns-in-Bits-clause-reports c = rw c.in-Bits.is c.report_over.ensures.reports

pub returns-in-Bytes-clause-reports : goal.returns-in-Bytes-clause-reports
returns-in-Bytes-clause-reports c = rw c.in-Bytes.is c.report_over-in-Bytes.ensures.reports

pub returns-in-Fermat-clause-reports : goal.returns-in-Fermat-clause-reports
returns-in-Fermat-clause-reports c = rw c.in-Fermat.is c.report_over-in-Fermat.ensures.reports
