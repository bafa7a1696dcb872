use Rattle.nf_exprs.proofs.Labels.{label_unclosed, closed_after}
use Rattle.nf_exprs.proofs.expect.closes_body.Goals as goal

pub returns-in-Some-clause-parses : goal.returns-in-Some-clause-parses
returns-in-Some-clause-parses c = λ g us v p. label_unclosed g us c.args.tokens.now v c.in-Some.left c.in-Some.ensures.0 c.in-Some.ensures.1 p

pub returns-clause-parses : goal.returns-clause-parses
returns-clause-parses c = λ g us v p. closed_after g us c.args.tokens.now v c.closes.result c.in_default.ensures p c.closes.ensures.parses
