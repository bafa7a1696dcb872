use Rattle.tests_core.proofs.tried.TriedRules.outputs.Goals as goal

pub returns : goal.returns
returns c = c.tried_outputs.ensures c.args._inputs.now c.args._report.now
