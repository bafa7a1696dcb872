use Rattle.std.proofs.Common.{refl}
use Rattle.std.proofs.lemmas.Result.{err_from_is_err_and}
use Rattle.nf_lowering.specs.Nodes.{wanting}
use Rattle.nf_lowering.proofs.Converting.{same_paths}
use Rattle.nf_lowering.proofs.Planned.{calls_same, extends_same, keeps_plan, lost}
use Rattle.nf_lowering.proofs.Sourcing.{room_same, want_walks}
use Rattle.nf_lowering.proofs.state.Lowering.want.Goals as goal

pub returns-in_err-want-clause-keeps : goal.returns-in_err-want-clause-keeps
returns-in_err-want-clause-keeps c =
    let old = c.args.self.now in
    let new = c.want.new.self in
    keeps_plan c.things_last.ensures.reads old new c.requires (extends_same old.plan new c.want.ensures.nodes c.want.ensures.infos) (same_paths old.plan old.plan new refl c.want.ensures.infos) c.want.ensures.plan

pub returns-in_err-want-clause-walk : goal.returns-in_err-want-clause-walk
returns-in_err-want-clause-walk c braces =
    let old = c.args.self.now in
    let p = err_from_is_err_and c.from_residual.result c.from_residual.ensures.1 in
    lost (wanting c.args.want) old _ braces c.from_residual.result p.0 p.1 p.2 (extends_same old.plan c.want.new.self c.want.ensures.nodes c.want.ensures.infos)

pub returns-in_err-want-clause-kept : goal.returns-in_err-want-clause-kept
returns-in_err-want-clause-kept c = room_same c.args.self.now.plan c.want.new.self c.want.ensures.nodes c.want.ensures.sizes

pub returns-in_err-want-clause-calls : goal.returns-in_err-want-clause-calls
returns-in_err-want-clause-calls c =
    let old = c.args.self.now in
    calls_same old c.want.new.self (same_paths old.plan old.plan c.want.new.self refl c.want.ensures.infos)

pub returns : goal.returns
returns c =
    let old = c.args.self.now in
    let new = c.want.new.self in
    let extends = extends_same old.plan new c.want.ensures.nodes c.want.ensures.infos in
    let same = same_paths old.plan old.plan new refl c.want.ensures.infos in
    record {
      keeps = keeps_plan c.things_last.ensures.reads old new c.requires extends same c.want.ensures.plan;
      walk = want_walks c.things_last.ensures.stands old c.args.want new extends c.requires c.in_ok-want.ensures.stands;
      kept = room_same old.plan new c.want.ensures.nodes c.want.ensures.sizes;
      calls = calls_same old new same;
      within = refl;
    }
