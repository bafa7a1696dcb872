use Rattle.nf_taken.proofs.Sourcing.{a_source, no_source}
use Rattle.nf_taken.proofs.sources.source_wanted.Goals as goal

pub returns-in-Some : goal.returns-in-Some
returns-in-Some c = a_source c.args.place c.args.name.now c.args.count c.in-Some.source c.in-Some.ensures c.taking.result c.taking.ensures

pub returns-in-None : goal.returns-in-None
returns-in-None c = no_source c.args.place c.args.name.now c.args.count c.in-None.ensures
