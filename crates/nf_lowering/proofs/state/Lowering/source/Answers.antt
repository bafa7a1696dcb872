use Rattle.std.proofs.Common.{refl}
use Rattle.std.proofs.lemmas.Result.{err_from_is_err_and}
use Rattle.nf_plan.specs.Calls.{source_info, source_node}
use Rattle.nf_follows.specs.Extends.{Extends}
use Rattle.nf_lowering.specs.Nodes.{gives_source}
use Rattle.nf_lowering.proofs.Applying.{node_fills, same_fills}
use Rattle.nf_lowering.proofs.Converting.{port_reads, same_paths, source_paths}
use Rattle.nf_lowering.proofs.Planned.{calls_same, extends_same, keeps_plan, lost}
use Rattle.nf_lowering.proofs.Sourcing.{source_walks}
use Rattle.nf_lowering.proofs.state.Lowering.source.Goals as goal

pub returns-in_err-port-clause-keeps : goal.returns-in_err-port-clause-keeps
returns-in_err-port-clause-keeps c =
    let old = c.args.self.now in
    let new = c.add_source.new.self in
    let same = c.in_err-port.ensures.same in
    keeps_plan c.things_last.ensures.reads old new c.requires.before (extends_same old.plan new same.nodes same.infos) (same_paths old.plan old.plan new refl same.infos) c.in_err-port.ensures.plan

pub returns-in_err-port-clause-walk : goal.returns-in_err-port-clause-walk
returns-in_err-port-clause-walk c braces =
    let old = c.args.self.now in
    let new = c.add_source.new.self in
    let same = c.in_err-port.ensures.same in
    let p = err_from_is_err_and c.from_residual.result c.from_residual.ensures.1 in
    lost (gives_source c.args.source) old _ braces c.from_residual.result p.0 p.1 p.2 (extends_same old.plan new same.nodes same.infos)

pub returns-in_err-port-clause-fills : goal.returns-in_err-port-clause-fills
returns-in_err-port-clause-fills c =
    same_fills c.rooms_last.ensures.again c.rooms_last.ensures.counted 0 c.args.self.now.plan c.add_source.new.self c.in_err-port.ensures.same

pub returns-in_err-port-clause-calls : goal.returns-in_err-port-clause-calls
returns-in_err-port-clause-calls c =
    let old = c.args.self.now in
    let new = c.add_source.new.self in
    calls_same old new (same_paths old.plan old.plan new refl c.in_err-port.ensures.same.infos)

pub returns : goal.returns
returns c =
    let old = c.args.self.now in
    let new = c.add_source.new.self in
    let o = c.args.source in
    let adds = c.in_ok-port.ensures.added in
    let extends : Extends old.plan new = c.plans_extend.ensures.one old.plan new (source_node o) (source_info o) adds in
    let same = source_paths old.plan old.plan new o refl adds in
    record {
      keeps = keeps_plan c.things_last.ensures.reads old new c.requires.before extends same c.in_ok-port.ensures.plan;
      reads = port_reads old.plan new o.value c.in_ok-port.port c.in_ok-port.ensures.port c.in_ok-port.ensures.reads;
      walk = source_walks c.things_last.ensures.stands old o new extends c.requires.before c.in_ok-port.ensures.reads c.in_ok-port.ensures.stands c.in_ok-port.port c.in_ok-port.ensures.port;
      fills = node_fills c.rooms_last.ensures.call old.plan new (source_node o) (source_info o) adds;
      calls = calls_same old new same;
      within = refl;
    }
