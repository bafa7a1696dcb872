use Rattle.std.proofs.Common.{not, ap, sym, rules}
use Rattle.std.proofs.lemmas.List.{nil_from_length}
use Rattle.nf_library.specs.Calls.{is_ready}
use Rattle.nf_library.specs.Stages.{defined_by}
use Rattle.nf_library.proofs.Staged.{part_all, part_more}
use Rattle.nf_library.proofs.order.part_all.Goals as goal

pub loop-one-preserved : goal.loop-one-preserved
loop-one-preserved c =
    let front = c.loop-one.one-iterator.rest.items in
    let left = c.next.new.self.rest.items in
    let x = c.in-Some.one in
    let ready = is_ready c.args.names.now.keys c.args.placed.now.keys in (
      part_more ready x front left c.is_ready-is_ready.result _ (defined_by c.loop-one.ready.items) (defined_by c.part.new.ready.items) c.in-Some.ensures.steps.0 (sym c.is_ready-is_ready.ensures) c.in_ok-part.ensures.ready c.loop-one.invariant.0,
      part_more (λ d. not (ready d)) x front left (not c.is_ready-is_ready.result) _ (defined_by c.loop-one.rest.items) (defined_by c.part.new.rest.items) c.in-Some.ensures.steps.0 (ap not (sym c.is_ready-is_ready.ensures)) c.in_ok-part.ensures.rest c.loop-one.invariant.1,
    )

pub returns-clause-ready : goal.returns-clause-ready
returns-clause-ready c = part_all (is_ready c.args.names.now.keys c.args.placed.now.keys) c.loop-one.one-iterator.rest.items _ (defined_by c.loop-one.ready.items) (nil_from_length c.loop-one.one-iterator.rest.items (search rules)) c.loop-one.invariant.0

pub returns-clause-rest : goal.returns-clause-rest
returns-clause-rest c = part_all (λ d. not (is_ready c.args.names.now.keys c.args.placed.now.keys d)) c.loop-one.one-iterator.rest.items _ (defined_by c.loop-one.rest.items) (nil_from_length c.loop-one.one-iterator.rest.items (search rules)) c.loop-one.invariant.1
