use Rattle.nf_plan.specs.Plans.{Adds}
use Rattle.nf_plan.specs.Calls.{source_node, source_info}
use Rattle.nf_plan.proofs.Adding.{source_ports, source_stands}
use Rattle.nf_plan.proofs.Fitting.{fits_as, adds_as, source_fits}
use Rattle.nf_plan.proofs.builder.PlanBuilder.add_source.Goals as goal

pub push-requires-clause-fits : goal.push-requires-clause-fits
push-requires-clause-fits c = fits_as c.args.self.now (source_node c.args.source) (source_info c.args.source) _ c.into_node-node.ensures (source_fits c.args.self.now c.args.source c.requires.fits)

pub returns-clause-added : goal.returns-clause-added
returns-clause-added c = adds_as c.args.self.now c.push.new.self (source_node c.args.source) (source_info c.args.source) _ c.into_node-node.ensures c.in_ok-from.ensures.added

pub returns-clause-reads : goal.returns-clause-reads
returns-clause-reads c =
    let adds : Adds c.args.self.now c.push.new.self (source_node c.args.source) (source_info c.args.source) = adds_as c.args.self.now c.push.new.self (source_node c.args.source) (source_info c.args.source) _ c.into_node-node.ensures c.in_ok-from.ensures.added in
    source_ports c.args.self.now c.push.new.self c.args.source c.requires.plan c.requires.fits.single adds

pub returns-clause-stands : goal.returns-clause-stands
returns-clause-stands c =
    let adds : Adds c.args.self.now c.push.new.self (source_node c.args.source) (source_info c.args.source) = adds_as c.args.self.now c.push.new.self (source_node c.args.source) (source_info c.args.source) _ c.into_node-node.ensures c.in_ok-from.ensures.added in
    source_stands c.added_later.ensures c.well_made.ensures c.outputs_stand.ensures.source c.args.self.now c.push.new.self c.args.source c.requires.plan c.in_ok-from.ensures.plan adds
