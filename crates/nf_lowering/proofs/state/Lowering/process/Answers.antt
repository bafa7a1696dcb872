use Rattle.std.proofs.Common.{◌≡◌, ◌<◌, ◌∙◌, ◌++◌, ◌∷◌, [], length, refl, sym, ap, subst}
use Rattle.std.proofs.lemmas.List.{length-map}
use Rattle.std.proofs.lemmas.Result.{err_from_is_err_and}
use Rattle.nf_tasks.specs.declared.process.Output.{Output}
use Rattle.nf_plan.specs.Calls.{process_info, process_node}
use Rattle.nf_follows.specs.Extends.{Extends}
use Rattle.nf_lowering.specs.declared.state.Lowering.{Lowering}
use Rattle.nf_lowering.specs.State.{process_paths}
use Rattle.nf_lowering.specs.Nodes.{FillsRoom, calls_process, labels_of}
use Rattle.nf_lowering.proofs.Applying.{node_fills, none_fills, same_fills}
use Rattle.nf_lowering.proofs.Planned.{extends_same, lost}
use Rattle.nf_lowering.proofs.Tasking.{can_add_process, on_ok, process_calls, process_given, process_keeps, process_path, reads_by}
use Rattle.nf_lowering.proofs.state.Lowering.process.Goals as goal

pub returns-in_err-labels-clause-walk : goal.returns-in_err-labels-clause-walk
returns-in_err-labels-clause-walk c braces =
    let old = c.args.self.now in
    let p = err_from_is_err_and c.from_residual.result c.from_residual.ensures.1 in
    lost (calls_process c.args.name.now c.args.call) old _ braces c.from_residual.result p.0 p.1 p.2 (extends_same old.plan old.plan refl refl)

pub returns-in_err-labels-clause-fills : goal.returns-in_err-labels-clause-fills
returns-in_err-labels-clause-fills c = none_fills c.rooms_last.ensures.again c.rooms_last.ensures.counted _ c.args.self.now.plan

pub returns-in_err-first-clause-walk : goal.returns-in_err-first-clause-walk
returns-in_err-first-clause-walk c braces =
    let old = c.args.self.now in
    let new = c.add_process.new.self in
    let same = c.in_err-first.ensures.same in
    let p = err_from_is_err_and c.from_residual-in_err-first.result c.from_residual-in_err-first.ensures.1 in
    lost (calls_process c.args.name.now c.args.call) old _ braces c.from_residual-in_err-first.result p.0 p.1 p.2 (extends_same old.plan new same.nodes same.infos)

pub returns-in_err-first-clause-fills : goal.returns-in_err-first-clause-fills
returns-in_err-first-clause-fills c =
    same_fills c.rooms_last.ensures.again c.rooms_last.ensures.counted _ c.args.self.now.plan c.add_process.new.self c.in_err-first.ensures.same

pub add_process-requires-clause-fits : goal.add_process-requires-clause-fits
add_process-requires-clause-fits c = can_add_process c.paths_stay_apart.ensures.new c.args.self.now c.args.name.now c.args.call c.requires.fits

pub give-requires : goal.give-requires
give-requires c =
    let os = c.args.call.spec.outputs.items in
    let few : length c.in_ok-labels.labels.items ≡ length os = ap (λ xs. length xs) (c.in_ok-labels.ensures ∙ ap labels_of c.as_slice.ensures.value) ∙ length-map os (λ (o : Output). o.emit) in
    subst (λ k. k < 4294967296) (sym few) c.requires.fits.outputs

pub returns : goal.returns
returns c =
    let old = c.args.self.now in
    let b = c.add_process.new.self in
    let new = c.give.new.self in
    let p = c.args.call in
    let n = c.args.name.now in
    let ls = c.in_ok-labels.labels.items in
    let port = c.in_ok-first.first in
    let adds = c.in_ok-first.ensures.added in
    let extends : Extends old.plan b = c.plans_extend.ensures.one old.plan b (process_node p) (process_info p) adds in
    let paths : process_paths b.infos.items ≡ process_paths old.plan.infos.items ++ (old.path ++ n) ∷ [] = process_path old p n b adds c.requires.fits.path in
    let names : ls ≡ labels_of p.spec.outputs.items = c.in_ok-labels.ensures ∙ ap labels_of c.as_slice.ensures.value in
    let few : length ls ≡ length p.spec.outputs.items = ap (λ xs. length xs) names ∙ length-map p.spec.outputs.items (λ (o : Output). o.emit) in
    let others = c.give.ensures.others in
    let reads = c.in_ok-first.ensures.reads in
    let at = c.in_ok-first.ensures.port in
    record {
      keeps = on_ok c.give.result
          (process_keeps old new p n b port ls others at names few reads c.things_last.ensures.reads c.paths_stay_apart.ensures.added c.requires.before extends c.in_ok-first.ensures.plan paths c.requires.fits.plain c.requires.fits.begun)
          c.give.ensures.kept;
      reads = reads_by old new p n b port ls others at names few reads c.give.result c.give.ensures.given;
      walk = process_given old new p n b port ls others at names few reads c.things_last.ensures.stands c.requires.before extends c.in_ok-first.ensures.stands c.give.result c.give.ensures.kept c.give.ensures.given c.give.ensures.fault;
      fills = subst (λ (z : Lowering). FillsRoom (length p.ports) old.plan z.plan) (sym others) (node_fills c.rooms_last.ensures.call old.plan b (process_node p) (process_info p) adds);
      calls = on_ok c.give.result (λ kept. process_calls old new b n others paths) c.give.ensures.kept;
      within = ap (λ (z : Lowering). z.within) others;
    }
