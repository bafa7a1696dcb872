use Rattle.tests_core.proofs.Trying.{apart, are_rules}
use Rattle.tests_core.proofs.runs.open.Goals as goal

pub new-requires-clause-rules : goal.new-requires-clause-rules
new-requires-clause-rules g c = are_rules g.J.Fixed.facts c.requires.tried

pub new-requires-clause-apart : goal.new-requires-clause-apart
new-requires-clause-apart g c = apart g.J.Fixed.facts c.requires.tried c.texts_tell_apart.ensures
