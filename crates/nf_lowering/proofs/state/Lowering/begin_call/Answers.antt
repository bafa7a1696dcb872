use Rattle.std.proofs.Common.{◌≡◌, string_bytes, refl, rules}
use Rattle.std.proofs.lemmas.Result.{err_from_is_err_and}
use Rattle.nf_lowering.specs.declared.state.Lowering.{Lowering}
use Rattle.nf_lowering.specs.Steps.{begins, begins_process}
use Rattle.nf_lowering.proofs.Beginning.{sets_of, begin_called, begin_goes, begin_keeps, begin_none, workflow_walks, process_walks}
use Rattle.nf_lowering.proofs.Planned.{extends_same, lost}
use Rattle.nf_lowering.proofs.state.Lowering.begin_call.Goals as goal

pub returns : goal.returns
returns c =
    let old = c.args.self.now in
    let n = c.args.name.now in
    let new : Lowering = record old { called = c.insert.new.self } in
    let named : string_bytes c.in_ok-name.name ≡ n = search rules in
    let sets = sets_of old.called c.insert.new.self c.in_ok-name.name n named c.in_ok-insert.ensures.updates in
    record {
      keeps = begin_keeps old new n refl sets c.requires.before;
      workflow = λ braces. workflow_walks old new n refl sets braces;
      process = λ braces. process_walks old new n refl sets braces;
      plan = refl;
      within = refl;
      goes = begin_goes old new n refl sets;
      here = begin_called old new n refl sets;
      none = begin_none old new n refl sets c.paths_stay_apart.ensures.none c.requires.before c.requires.plain c.requires.fresh;
    }

pub returns-in_err-name-clause-workflow : goal.returns-in_err-name-clause-workflow
returns-in_err-name-clause-workflow c braces =
    let old = c.args.self.now in
    let p = err_from_is_err_and c.from_residual.result c.from_residual.ensures.1 in
    lost (begins c.args.name.now) old _ braces c.from_residual.result p.0 p.1 p.2 (extends_same old.plan old.plan refl refl)

pub returns-in_err-insert-clause-workflow : goal.returns-in_err-insert-clause-workflow
returns-in_err-insert-clause-workflow c braces =
    let old = c.args.self.now in
    let p = err_from_is_err_and c.from_residual-in_err-insert.result c.from_residual-in_err-insert.ensures.1 in
    lost (begins c.args.name.now) old _ braces c.from_residual-in_err-insert.result p.0 p.1 p.2 (extends_same old.plan old.plan refl refl)

pub returns-in_err-name-clause-process : goal.returns-in_err-name-clause-process
returns-in_err-name-clause-process c braces =
    let old = c.args.self.now in
    let p = err_from_is_err_and c.from_residual.result c.from_residual.ensures.1 in
    lost (begins_process c.args.name.now) old _ braces c.from_residual.result p.0 p.1 p.2 (extends_same old.plan old.plan refl refl)

pub returns-in_err-insert-clause-process : goal.returns-in_err-insert-clause-process
returns-in_err-insert-clause-process c braces =
    let old = c.args.self.now in
    let p = err_from_is_err_and c.from_residual-in_err-insert.result c.from_residual-in_err-insert.ensures.1 in
    lost (begins_process c.args.name.now) old _ braces c.from_residual-in_err-insert.result p.0 p.1 p.2 (extends_same old.plan old.plan refl refl)
