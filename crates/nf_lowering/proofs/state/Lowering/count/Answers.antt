use Rattle.std.proofs.Common.{refl}
use Rattle.nf_lowering.proofs.Counting.{count_extends, count_grows, count_room, count_keeps, count_paths, count_walks}
use Rattle.nf_lowering.proofs.Planned.{calls_same, keeps_plan}
use Rattle.nf_lowering.proofs.state.Lowering.count.Goals as goal

pub returns : goal.returns
returns c =
    let old = c.args.self.now in
    record {
      keeps = keeps_plan c.things_last.ensures.reads old c.count.new.self c.requires (count_extends old.plan c.args.place c.args.ports c.count.new.self c.count.result c.count.ensures.counts)
          (count_paths old.plan c.args.place c.args.ports c.count.new.self c.count.result c.count.ensures.counts) c.count.ensures.plan;
      walk = λ braces. count_walks c.things_last.ensures.stands old c.args.place c.args.ports c.count.new.self c.count.result braces c.requires c.count.ensures.counts;
      grows = count_grows old.plan c.args.place c.args.ports c.count.new.self c.count.result c.count.ensures.counts;
      room = count_room old.plan c.args.place c.args.ports c.count.new.self c.count.result c.count.ensures.counts;
      kept = count_keeps c.rooms_last.ensures.counted c.rooms_last.ensures.same old.plan c.args.place c.args.ports c.count.new.self c.count.result c.count.ensures.counts;
      calls = calls_same old c.count.new.self (count_paths old.plan c.args.place c.args.ports c.count.new.self c.count.result c.count.ensures.counts);
      within = refl;
    }
