use Rattle.std.proofs.Common.{◌∙◌}
use Rattle.nf_steps.proofs.Legals.{refused_run}
use Rattle.nf_steps.proofs.tickets.refuse.Goals as goal

pub returns-clause-run : goal.returns-clause-run
returns-clause-run g c =
    refused_run (g.R.Rules.meaning c.args.rules.now) c.args.flow.now c.abort.new.self c.args.ticket c.node.result c.n.result c.in-Ok.inputs c.args.fault c.requires.run c.requires.ticket c.requires.fault
    c.node.ensures (c.in-Ok.ensures ∙ c.inputs.ensures) c.n.ensures c.abort.ensures
