use Rattle.nf_tasks.specs.Memory.{program}
use Rattle.nf_core.specs.Told.{IsDoneOf, IsSeenOf}
use Rattle.nf_carried.proofs.Refusing.{ends_as_refusal}
use Rattle.nf_carried.proofs.Owing.{Laws, carried_out}
use Rattle.nf_carried.proofs.carry.carry_out.Goals as goal

pub write-end-requires : goal.write-end-requires
write-end-requires g c = ends_as_refusal _ _ _ _ c.args.work _ c.requires.work c.do_work-done.ensures.did

pub returns-clause-carried : goal.returns-clause-carried
returns-clause-carried g c =
    let n = program (g.N.Natives.titles c.args.natives.now) (g.N.Natives.answer c.args.natives.now) in
    let laws : Laws = record {
      ends = c.faultless_ends.ensures;
      copied = c.copies_alike.ensures.copied;
      others = c.copies_alike.ensures.others;
      refused = c.copies_alike.ensures.refused;
    } in
    carried_out laws n _ (IsDoneOf g.L.Done.Finished.genuine g.L.Done.Finished.job g.L.Done.Finished.told) (IsSeenOf g.L.Seen.Present.genuine g.L.Seen.Present.told) _ c.args.work c.do_work-done.result.outcome
    c.do_work-done.ensures.did
    (record {
      ends = c.write-end.ensures.ends;
      output = c.write-end.ensures.output;
      line = c.write-end.ensures.line;
      blamed = c.write-end.ensures.cause;
      later = c.write-end.ensures.later;
      told = c.write-end.ensures.told;
    })
