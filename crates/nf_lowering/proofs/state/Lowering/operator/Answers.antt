use Rattle.std.proofs.Common.{◌≡◌, ◌<◌, ◌∙◌, ℕ, List, length, refl, ap, subst, sym}
use Rattle.std.proofs.lemmas.Result.{err_from_is_err_and}
use Rattle.nf_plan.specs.Calls.{operator_info, operator_node}
use Rattle.nf_follows.specs.Extends.{Extends}
use Rattle.nf_scopes.specs.Things.{thing_of}
use Rattle.nf_lowering.specs.Nodes.{applies, operator_gives}
use Rattle.nf_lowering.proofs.Applying.{node_fills, same_fills, operator_paths, operator_reads, operator_walks}
use Rattle.nf_lowering.proofs.Converting.{same_paths}
use Rattle.nf_lowering.proofs.Planned.{calls_same, extends_same, keeps_plan, lost}
use Rattle.nf_lowering.proofs.state.Lowering.operator.Goals as goal

pub operator_gives-requires : goal.operator_gives-requires
operator_gives-requires c = subst (λ (ns : List (List ℕ)). length ns < 4294967296) (sym c.as_slice.ensures.value) c.requires.few

pub returns-in_err-first-clause-keeps : goal.returns-in_err-first-clause-keeps
returns-in_err-first-clause-keeps c =
    let old = c.args.self.now in
    let new = c.add_operator.new.self in
    let same = c.in_err-first.ensures.same in
    keeps_plan c.things_last.ensures.reads old new c.requires.before (extends_same old.plan new same.nodes same.infos) (same_paths old.plan old.plan new refl same.infos) c.in_err-first.ensures.plan

pub returns-in_err-first-clause-walk : goal.returns-in_err-first-clause-walk
returns-in_err-first-clause-walk c braces =
    let old = c.args.self.now in
    let new = c.add_operator.new.self in
    let same = c.in_err-first.ensures.same in
    let p = err_from_is_err_and c.from_residual.result c.from_residual.ensures.1 in
    lost (applies c.args.call c.args.labels.items) old _ braces c.from_residual.result p.0 p.1 p.2 (extends_same old.plan new same.nodes same.infos)

pub returns-in_err-first-clause-fills : goal.returns-in_err-first-clause-fills
returns-in_err-first-clause-fills c =
    same_fills c.rooms_last.ensures.again c.rooms_last.ensures.counted _ c.args.self.now.plan c.add_operator.new.self c.in_err-first.ensures.same

pub returns-in_err-first-clause-calls : goal.returns-in_err-first-clause-calls
returns-in_err-first-clause-calls c =
    let old = c.args.self.now in
    let new = c.add_operator.new.self in
    calls_same old new (same_paths old.plan old.plan new refl c.in_err-first.ensures.same.infos)

pub returns-in_err-thing-clause-keeps : goal.returns-in_err-thing-clause-keeps
returns-in_err-thing-clause-keeps c =
    let old = c.args.self.now in
    let new = c.add_operator.new.self in
    let o = c.args.call in
    let adds = c.in_ok-first.ensures.added in
    keeps_plan c.things_last.ensures.reads old new c.requires.before (c.plans_extend.ensures.one old.plan new (operator_node o) (operator_info o) adds)
    (operator_paths old o c.args.labels.items new adds c.requires.fits.body) c.in_ok-first.ensures.plan

pub returns-in_err-thing-clause-walk : goal.returns-in_err-thing-clause-walk
returns-in_err-thing-clause-walk c braces =
    let old = c.args.self.now in
    let new = c.add_operator.new.self in
    let o = c.args.call in
    let p = err_from_is_err_and c.from_residual-in_err-thing.result c.from_residual-in_err-thing.ensures.1 in
    lost (applies o c.args.labels.items) old _ braces c.from_residual-in_err-thing.result p.0 p.1 p.2
    (c.plans_extend.ensures.one old.plan new (operator_node o) (operator_info o) c.in_ok-first.ensures.added)

pub returns-in_err-thing-clause-fills : goal.returns-in_err-thing-clause-fills
returns-in_err-thing-clause-fills c =
    let o = c.args.call in
    node_fills c.rooms_last.ensures.call c.args.self.now.plan c.add_operator.new.self (operator_node o) (operator_info o) c.in_ok-first.ensures.added

pub returns-in_err-thing-clause-calls : goal.returns-in_err-thing-clause-calls
returns-in_err-thing-clause-calls c =
    let old = c.args.self.now in
    let new = c.add_operator.new.self in
    calls_same old new (operator_paths old c.args.call c.args.labels.items new c.in_ok-first.ensures.added c.requires.fits.body)

pub returns : goal.returns
returns c =
    let old = c.args.self.now in
    let new = c.add_operator.new.self in
    let o = c.args.call in
    let ns = c.args.labels.items in
    let port = c.in_ok-first.first in
    let adds = c.in_ok-first.ensures.added in
    let extends : Extends old.plan new = c.plans_extend.ensures.one old.plan new (operator_node o) (operator_info o) adds in
    let same = operator_paths old o ns new adds c.requires.fits.body in
    let is : thing_of c.in_ok-thing.thing ≡ operator_gives o.row port ns = c.in_ok-thing.ensures ∙ ap (operator_gives o.row port) c.as_slice.ensures.value in
    record {
      keeps = keeps_plan c.things_last.ensures.reads old new c.requires.before extends same c.in_ok-first.ensures.plan;
      reads = operator_reads old o ns new c.requires.labels c.in_ok-first.ensures.reads port c.in_ok-thing.thing c.in_ok-first.ensures.port is;
      walk = operator_walks old o ns new c.things_last.ensures.stands extends c.requires.before c.requires.labels c.in_ok-first.ensures.reads c.in_ok-first.ensures.stands port c.in_ok-first.ensures.port c.in_ok-thing.thing is;
      fills = node_fills c.rooms_last.ensures.call old.plan new (operator_node o) (operator_info o) adds;
      calls = calls_same old new same;
      within = refl;
    }
