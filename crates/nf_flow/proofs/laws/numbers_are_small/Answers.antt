use Rattle.nf_flow.specs.Seen.{plain_of, events_of}
use Rattle.nf_flow.proofs.Standing.{few_nodes}
use Rattle.nf_flow.proofs.laws.numbers_are_small.Goals as goal

pub returns : goal.returns
returns c z x w m = c.numbers_are_small.ensures (plain_of z) m.rules (events_of z) (c.well_made.ensures z.graph w) (few_nodes z.graph w) m.allows.rules m.allows.lawful
