use Rattle.nf_walked.proofs.Names as names
use Rattle.nf_applied.proofs.taking.body_at.Goals as goal

pub returns-clause-same : goal.returns-clause-same
returns-clause-same g c p h = names.body_at g.N.Natives.titles g.N.Natives.answer c.args.walker.now c.names.result.now c.args.state.now p c.names.ensures h
