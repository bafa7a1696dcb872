use Rattle.nf_tasks.specs.Memory.{program}
use Rattle.nf_owed.proofs.Finishes.{Laws, stopped_comes, well_comes}
use Rattle.nf_owed.proofs.run_end.end_of_run.Goals as goal

pub returns-in-Some : goal.returns-in-Some
returns-in-Some g c b is =
    let laws : Laws = record {
      every_order = c.every_order.ensures;
      own_outcomes = c.own_outcomes.ensures;
      well_made = c.well_made.ensures;
      by_bags = c.by_bags.ensures.report;
      printed_as_meant = c.printed_as_meant.ensures;
      published_as_meant = c.published_as_meant.ensures;
    } in
    stopped_comes laws (program (g.N.Natives.titles c.args.natives.now) (g.N.Natives.answer c.args.natives.now)) b c.args.infos.now c.args.flow.now is c.in-Some.stop.now c.stopped.result c.in-Some.ensures.stop c.in-Some.ensures.named c.stopped.ensures

pub returns-in-None : goal.returns-in-None
returns-in-None g c b is =
    let laws : Laws = record {
      every_order = c.every_order.ensures;
      own_outcomes = c.own_outcomes.ensures;
      well_made = c.well_made.ensures;
      by_bags = c.by_bags.ensures.report;
      printed_as_meant = c.printed_as_meant.ensures;
      published_as_meant = c.published_as_meant.ensures;
    } in
    well_comes laws (program (g.N.Natives.titles c.args.natives.now) (g.N.Natives.answer c.args.natives.now)) b c.args.infos.now c.args.flow.now is c.report_and_files.result c.requires.over c.in-None.ensures.stop c.report_and_files.ensures
