use Rattle.nf_plan.specs.Plans.{Adds}
use Rattle.nf_plan.specs.Calls.{operator_node, operator_info}
use Rattle.nf_plan.proofs.Adding.{operator_ports, operator_stands}
use Rattle.nf_plan.proofs.Fitting.{fits_as, adds_as, operator_fits}
use Rattle.nf_plan.proofs.builder.PlanBuilder.add_operator.Goals as goal

pub push-requires-clause-fits : goal.push-requires-clause-fits
push-requires-clause-fits c = fits_as c.args.self.now (operator_node c.args.call) (operator_info c.args.call) _ c.into_node-node.ensures (operator_fits c.args.self.now c.args.call c.requires.fits)

pub returns-clause-added : goal.returns-clause-added
returns-clause-added c = adds_as c.args.self.now c.push.new.self (operator_node c.args.call) (operator_info c.args.call) _ c.into_node-node.ensures c.in_ok-from.ensures.added

pub returns-clause-reads : goal.returns-clause-reads
returns-clause-reads c =
    let adds : Adds c.args.self.now c.push.new.self (operator_node c.args.call) (operator_info c.args.call) = adds_as c.args.self.now c.push.new.self (operator_node c.args.call) (operator_info c.args.call) _ c.into_node-node.ensures c.in_ok-from.ensures.added in
    operator_ports c.args.self.now c.push.new.self c.args.call c.requires.plan adds

pub returns-clause-stands : goal.returns-clause-stands
returns-clause-stands c =
    let adds : Adds c.args.self.now c.push.new.self (operator_node c.args.call) (operator_info c.args.call) = adds_as c.args.self.now c.push.new.self (operator_node c.args.call) (operator_info c.args.call) _ c.into_node-node.ensures c.in_ok-from.ensures.added in
    operator_stands c.added_later.ensures c.well_made.ensures c.outputs_stand.ensures.call c.args.self.now c.push.new.self c.args.call c.requires.plan c.in_ok-from.ensures.plan c.requires.fits adds
