use Rattle.std.proofs.Common.{refl}
use Rattle.nf_lowering.specs.declared.state.Lowering.{Lowering}
use Rattle.nf_lowering.proofs.Returning.{PathLaws, restored_back}
use Rattle.nf_lowering.proofs.state.Lowering.leave_workflow.Goals as goal

pub returns : goal.returns
returns c =
    let old = c.args.self.now in
    let o = c.args.outer in
    let new : Lowering = record old { names = o.names; called = o.called; calls = o.calls; path = o.path; within = c.pop_front.new.self } in
    let laws : PathLaws = record { more = c.paths_stay_apart.ensures.more; workflow = c.paths_stay_apart.ensures.workflow; called = c.paths_stay_apart.ensures.called } in
    record {
      back = restored_back c.things_last.ensures.reads c.things_last.ensures.stands laws o old new c.requires
          (record { plan = refl; names = refl; called = refl; calls = refl; path = refl; within = c.pop_front.ensures.rest });
      plan = refl;
      calls = refl;
      within = c.pop_front.ensures.rest;
    }
