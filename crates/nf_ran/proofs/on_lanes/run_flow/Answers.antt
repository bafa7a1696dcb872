use Rattle.std.proofs.Common.{◌≡◌, List, sym, subst}
use denote.Param.Send.{sendable}
use Rattle.nf_graph.specs.Rules.{Rules}
use Rattle.nf_graph.specs.declared.node.Node.{Node}
use Rattle.nf_machine.specs.History.{IsHistory}
use Rattle.nf_flow.specs.Seen.{events_of, plain_of}
use Rattle.nf_stored.specs.Attempts.{TellsApart}
use Rattle.nf_tasks.specs.Memory.{program}
use Rattle.nf_bodies.specs.Bodies.{rules_of}
use Rattle.nf_core.specs.Told.{IsDoneOf, IsSeenOf}
use Rattle.nf_pool.specs.Pool.{lanes_now}
use Rattle.nf_ran.specs.Ran.{IsTraced, keeper_now, came_to, trace_text, upshot}
use Rattle.nf_ran.proofs.Lanes.{lanes_ran, lanes_told}
use Rattle.nf_ran.proofs.Shared.{info}
use Rattle.nf_ran.proofs.Viewing.{ran_on}
use Rattle.nf_ran.proofs.on_lanes.run_flow.Goals as goal

pub run-flow-requires-sync-R : goal.run-flow-requires-sync-R
run-flow-requires-sync-R g c κs = search (info, sendable) depth 40

pub run-flow-requires-clause-apart : goal.run-flow-requires-clause-apart
run-flow-requires-clause-apart g c κs within =
    let n = program (g.N.Natives.titles c.args.natives.now) (g.N.Natives.answer c.args.natives.now) in
    let rules = c.new-rules.result in
    let of_infos = c.plans_tell_apart.ensures n c.args.flow.graph c.args.infos.now c.requires.planned in
    let same : rules_of n c.args.infos.now ≡ rules_of (program (g.N.Natives.titles rules.natives.now) (g.N.Natives.answer rules.natives.now)) rules.infos.now =
    λ i. rules_of (program (g.N.Natives.titles (sym c.new-rules.ensures.natives i)) (g.N.Natives.answer (sym c.new-rules.ensures.natives i))) (sym c.new-rules.ensures.infos i) in
    subst TellsApart same of_infos

pub come_to-outcome-requires-clause-proper : goal.come_to-outcome-requires-clause-proper
come_to-outcome-requires-clause-proper g c =
    let rules = c.new-rules.result in
    record {
      rules = rules_of (program (g.N.Natives.titles rules.natives.now) (g.N.Natives.answer rules.natives.now)) rules.infos.now;
      proper = c.run-flow.ensures.run.rules;
      lawful = c.run-flow.ensures.run.lawful;
    }

pub come_to-outcome-requires-clause-lawful : goal.come_to-outcome-requires-clause-lawful
come_to-outcome-requires-clause-lawful g c =
    let rules = c.new-rules.result in
    let flow = c.run-flow.result.flow in
    let same : rules_of (program (g.N.Natives.titles rules.natives.now) (g.N.Natives.answer rules.natives.now)) rules.infos.now ≡ rules_of (program (g.N.Natives.titles c.args.natives.now) (g.N.Natives.answer c.args.natives.now)) c.args.infos.now =
    λ i. rules_of (program (g.N.Natives.titles (c.new-rules.ensures.natives i)) (g.N.Natives.answer (c.new-rules.ensures.natives i))) (c.new-rules.ensures.infos i) in
    subst (λ (R : Rules). IsHistory (plain_of flow) R (events_of flow)) same c.run-flow.ensures.run.lawful

pub returns-clause-ran : goal.returns-clause-ran
returns-clause-ran g c =
    let n = program (g.N.Natives.titles c.args.natives.now) (g.N.Natives.answer c.args.natives.now) in
    let infos = c.args.infos.now in
    let rules = c.new-rules.result in
    let meaning = rules_of (program (g.N.Natives.titles rules.natives.now) (g.N.Natives.answer rules.natives.now)) rules.infos.now in
    let same : meaning ≡ rules_of n infos =
    λ i. rules_of (program (g.N.Natives.titles (c.new-rules.ensures.natives i)) (g.N.Natives.answer (c.new-rules.ensures.natives i))) (c.new-rules.ensures.infos i) in
    let r = c.run-flow.result in
    let before = keeper_now (g.K.Keeper.held c.args.keeper) (g.K.Keeper.faults c.args.keeper) in
    let after = keeper_now (g.K.Keeper.held r.keeper) (g.K.Keeper.faults r.keeper) in
    let lanes = lanes_now g.L.Lane.runs g.L.Lane.faults g.L.Lane.world g.L.Lane.store c.args.lanes.items in
    let later = lanes_now g.L.Lane.runs g.L.Lane.faults g.L.Lane.world g.L.Lane.store r.lanes.items in
    let y = came_to c.into_history.result.items r.kept.dones.items r.kept.seens.items (upshot c.come_to-outcome.result.0 c.come_to-outcome.result.1) after later in
    ran_on n c.args.flow infos c.args.options before lanes (IsDoneOf g.L.Done.Finished.genuine g.L.Done.Finished.job g.L.Done.Finished.told) (IsSeenOf g.L.Seen.Present.genuine g.L.Seen.Present.told)
    r.flow meaning _ y same (lanes_told g.L.Lane.runs g.L.Lane.faults g.L.Lane.world g.L.Lane.store c.args.lanes.items) c.into_history.ensures
    (lanes_ran g.L.Lane.runs g.L.Lane.faults g.L.Lane.world g.L.Lane.store c.args.lanes.items r.lanes.items r.flow c.into_history.result.items c.into_history.ensures c.run-flow.ensures.runs c.run-flow.ensures.rose c.run-flow.ensures.later)
    c.run-flow.ensures.run c.requires.planned
    (λ b of. c.come_to-outcome.ensures.comes b of)
    (λ graph same. subst (λ (ns : List Node). IsTraced c.args.options.traced (trace_text n ns infos r.flow.history) (upshot c.come_to-outcome.result.0 c.come_to-outcome.result.1)) same c.come_to-outcome.ensures.traced)
