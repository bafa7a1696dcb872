use Rattle.std.proofs.Common.{subst, take}
use Rattle.nf_tasks.specs.Memory.{program}
use Rattle.nf_core.specs.Told.{IsDoneOf, IsSeenOf}
use Rattle.nf_ran.specs.Pool.{lanes_now}
use Rattle.nf_ran.specs.declared.options.RunOptions.{RunOptions}
use Rattle.nf_ran.specs.Ran.{RanPlan, begun_over, came_to, keeper_now, upshot}
use Rattle.nf_carried.specs.Objects.{host_now}
use Rattle.nf_carried.proofs.carry.run_and_copy.Goals as goal

pub returns-clause-ran : goal.returns-clause-ran
returns-clause-ran g c =
    let n = program (g.N.Natives.titles c.args.natives.now) (g.N.Natives.answer c.args.natives.now) in
    let r = c.run_first-ran.result in
    let before = keeper_now (g.K.Keeper.held c.args.keeper) (g.K.Keeper.faults c.args.keeper) in
    let after = keeper_now (g.K.Keeper.held r.keeper) (g.K.Keeper.faults r.keeper) in
    let lanes = lanes_now g.L.Lane.runs g.L.Lane.faults g.L.Lane.world g.L.Lane.store (take c.args.queue c.args.lanes.items) in
    let later = lanes_now g.L.Lane.runs g.L.Lane.faults g.L.Lane.world g.L.Lane.store (take c.args.queue r.lanes.items) in
    let u = upshot r.outcome r.trace in
    record {
      upshot = u;
      ran = subst (λ (options : RunOptions). RanPlan (begun_over n c.args.plan.graph c.args.plan.infos.items options before lanes)
          (IsDoneOf g.L.Done.Finished.genuine g.L.Done.Finished.job g.L.Done.Finished.told) (IsSeenOf g.L.Seen.Present.genuine g.L.Seen.Present.told)
          (came_to r.history.items r.kept.dones.items r.kept.seens.items u after later)) c.options-options.ensures c.run_first-ran.ensures.ran;
      noted = host_now (g.H.Host.files c.noted-left.new.host) (g.H.Host.faults c.noted-left.new.host);
      later = (c.noted-left.ensures.later, c.copied-outcome.ensures.later);
      left = c.noted-left.result;
      notes = c.noted-left.ensures.notes;
      copied = c.copied-outcome.ensures.copies;
    }
