use Rattle.nf_record.proofs.look.older_report.Goals as goal

pub returns-clause-exact : goal.returns-clause-exact
returns-clause-exact c = rw (← c.text.ensures) c.report_at.ensures.exact

pub returns-clause-same : goal.returns-clause-same
returns-clause-same c = rw (← c.text.ensures) c.report_at.ensures.same
