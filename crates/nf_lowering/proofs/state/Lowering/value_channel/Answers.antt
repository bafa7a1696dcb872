use Rattle.std.proofs.Common.{Ok, Err, refl, arith}
use Rattle.std.proofs.lemmas.Result.{err_from_is_err_and}
use Rattle.nf_value.specs.View.{plain_of}
use Rattle.nf_plan.specs.Calls.{source_info, source_node}
use Rattle.nf_follows.specs.Extends.{Extends}
use Rattle.nf_lowering.specs.Steps.{as_value_channel}
use Rattle.nf_lowering.proofs.Converting.{can_add, port_reads, same_keeps, same_paths, source_paths, value_given, value_refused}
use Rattle.nf_lowering.proofs.Counting.{count_extends, count_keeps, count_paths}
use Rattle.nf_lowering.proofs.Planned.{calls_same, extends_same, keeps_plan, lost}
use Rattle.nf_lowering.proofs.state.Lowering.value_channel.Goals as goal

pub returns-in_err-source-clause-walk : goal.returns-in_err-source-clause-walk
returns-in_err-source-clause-walk c braces =
    let old = c.args.self.now in
    let p = err_from_is_err_and c.from_residual.result c.from_residual.ensures.1 in
    lost (as_value_channel c.args.place c.args.value) old old braces c.from_residual.result p.0 p.1 p.2 (extends_same old.plan old.plan refl refl)

pub returns-in_err-source-clause-kept : goal.returns-in_err-source-clause-kept
returns-in_err-source-clause-kept c = c.rooms_last.ensures.same c.args.self.now.plan

pub returns-in_err-count-clause-keeps : goal.returns-in_err-count-clause-keeps
returns-in_err-count-clause-keeps c =
    let old = c.args.self.now in
    let e = c.in_err-count.field-0.0 in
    keeps_plan c.things_last.ensures.reads old c.count.new.self c.requires (count_extends old.plan c.args.place 0 c.count.new.self (Err e) c.in_err-count.ensures.counts)
    (count_paths old.plan c.args.place 0 c.count.new.self (Err e) c.in_err-count.ensures.counts) c.in_err-count.ensures.plan

pub returns-in_err-count-clause-walk : goal.returns-in_err-count-clause-walk
returns-in_err-count-clause-walk c braces =
    let p = err_from_is_err_and c.from_residual-in_err-count.result c.from_residual-in_err-count.ensures.1 in
    rw (p.1, p.2) (value_refused c.args.self.now c.args.place c.args.value braces c.things_last.ensures.stands c.count.new.self c.in_err-count.field-0.0 c.requires c.in_err-count.ensures.counts)

pub returns-in_err-count-clause-kept : goal.returns-in_err-count-clause-kept
returns-in_err-count-clause-kept c =
    let old = c.args.self.now.plan in
    count_keeps c.rooms_last.ensures.counted c.rooms_last.ensures.same old c.args.place 0 c.count.new.self (Err c.in_err-count.field-0.0) c.in_err-count.ensures.counts

pub returns-in_err-count-clause-calls : goal.returns-in_err-count-clause-calls
returns-in_err-count-clause-calls c =
    let old = c.args.self.now in
    calls_same old c.count.new.self (count_paths old.plan c.args.place 0 c.count.new.self (Err c.in_err-count.field-0.0) c.in_err-count.ensures.counts)

pub add_source-requires-clause-fits : goal.add_source-requires-clause-fits
add_source-requires-clause-fits c = can_add c.count.new.self c.in_ok-source.source (plain_of c.args.value) c.in_ok-count.ensures.counts.room c.in_ok-source.ensures.items

pub returns-in_err-port-clause-keeps : goal.returns-in_err-port-clause-keeps
returns-in_err-port-clause-keeps c =
    let old = c.args.self.now in
    let mid = c.count.new.self in
    let new = c.add_source.new.self in
    let same = c.in_err-port.ensures.same in
    let extends : Extends old.plan new =
    c.plans_extend.ensures.again old.plan mid new (count_extends old.plan c.args.place 0 mid (Ok tt) c.in_ok-count.ensures.counts) (extends_same mid new same.nodes same.infos) in
    keeps_plan c.things_last.ensures.reads old new c.requires extends (same_paths old.plan mid new c.in_ok-count.ensures.counts.infos same.infos) c.in_err-port.ensures.plan

pub returns-in_err-port-clause-walk : goal.returns-in_err-port-clause-walk
returns-in_err-port-clause-walk c braces =
    let old = c.args.self.now in
    let mid = c.count.new.self in
    let new = c.add_source.new.self in
    let same = c.in_err-port.ensures.same in
    let p = err_from_is_err_and c.from_residual-in_err-port.result c.from_residual-in_err-port.ensures.1 in
    let extends : Extends old.plan new =
    c.plans_extend.ensures.again old.plan mid new (count_extends old.plan c.args.place 0 mid (Ok tt) c.in_ok-count.ensures.counts) (extends_same mid new same.nodes same.infos) in
    lost (as_value_channel c.args.place c.args.value) old _ braces c.from_residual-in_err-port.result p.0 p.1 p.2 extends

pub returns-in_err-port-clause-kept : goal.returns-in_err-port-clause-kept
returns-in_err-port-clause-kept c =
    let old = c.args.self.now.plan in
    let mid = c.count.new.self in
    let new = c.add_source.new.self in
    c.rooms_last.ensures.again old mid new (c.rooms_last.ensures.counted old 0 mid c.in_ok-count.ensures.counts) (same_keeps mid new c.in_err-port.ensures.same)

pub returns-in_err-port-clause-calls : goal.returns-in_err-port-clause-calls
returns-in_err-port-clause-calls c =
    let old = c.args.self.now in
    let mid = c.count.new.self in
    let new = c.add_source.new.self in
    calls_same old new (same_paths old.plan mid new c.in_ok-count.ensures.counts.infos c.in_err-port.ensures.same.infos)

pub returns : goal.returns
returns c =
    let old = c.args.self.now in
    let mid = c.count.new.self in
    let new = c.add_source.new.self in
    let source = c.in_ok-source.source in
    let g = c.in_ok-count.ensures.counts in
    let adds = c.in_ok-port.ensures.added in
    let one : Extends mid new = c.plans_extend.ensures.one mid new (source_node source) (source_info source) adds in
    record {
      keeps = keeps_plan c.things_last.ensures.reads old new c.requires (c.plans_extend.ensures.again old.plan mid new (count_extends old.plan c.args.place 0 mid (Ok tt) g) one)
          (source_paths old.plan mid new source g.infos adds) c.in_ok-port.ensures.plan;
      reads = port_reads mid new source.value c.in_ok-port.port c.in_ok-port.ensures.port c.in_ok-port.ensures.reads;
      walk = λ braces. value_given old c.args.place c.args.value braces c.things_last.ensures.stands c.plans_extend.ensures.again mid new source c.in_ok-port.port c.requires g
          c.in_ok-source.ensures.items c.in_ok-source.ensures.kind adds one c.in_ok-port.ensures.stands c.in_ok-port.ensures.port c.in_ok-port.ensures.reads;
      kept = c.rooms_last.ensures.call old.plan mid 0 mid new (source_node source) (source_info source) g (c.rooms_last.ensures.same mid) adds (omega arith);
      calls = calls_same old new (source_paths old.plan mid new source g.infos adds);
      within = refl;
    }
