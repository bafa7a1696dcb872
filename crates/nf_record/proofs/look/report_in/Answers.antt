use Rattle.std.proofs.Common.{ap, ◌∙◌}
use Rattle.std.specs.Option.{option_and_then}
use Rattle.nf_record.specs.Lookup.{report_if}
use Rattle.nf_record.proofs.Answering.{reads_judged}
use Rattle.nf_record.proofs.look.report_in.Goals as goal

pub returns-clause-exact : goal.returns-clause-exact
returns-clause-exact c = reads_judged c.records_read_back.ensures c.args.form c.args.text.now c.args.bytes.now _ _ c.in_ok-found.ensures.exact c.in_ok-found.ensures.same c.judged.ensures

pub returns-clause-same : goal.returns-clause-same
returns-clause-same c = c.judged.ensures ∙ ap (option_and_then (report_if c.args.form c.args.text.now)) c.in_ok-found.ensures.same
