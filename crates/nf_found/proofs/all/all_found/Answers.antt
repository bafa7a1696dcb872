use Rattle.std.proofs.Common.{refl, ◌∙◌, map, arith}
use Rattle.nf_host.proofs.Copying.{both_then, both_same}
use Rattle.nf_shell.specs.Places.{KeepsOrStores}
use Rattle.nf_shell.proofs.Stores.{stores_all, stores_then}
use Rattle.nf_sources.specs.Sources.{scratch_in}
use Rattle.nf_plan.specs.Plans.{want_of}
use Rattle.nf_found.specs.Refusal.{no_memory}
use Rattle.nf_found.proofs.Steps.{as_refused, found_all, found_more, found_none, without_here}
use Rattle.nf_found.proofs.Stored.{stored_none, stored_one}
use Rattle.nf_found.proofs.all.all_found.Goals as goal

pub loop-want-init : goal.loop-want-init
loop-want-init g c =
    let told = g.H.Host.files c.args.host.now in record {
      later = omega arith;
      no_start = refl;
      kept = both_same told told (KeepsOrStores c.args.work.now (scratch_in c.args.work.now)) (stores_all c.args.work.now (scratch_in c.args.work.now)) refl;
      found = found_none c.args.work.now told c.args.wants.now c.new-found.result.items c.new-found.ensures.items;
      stored = stored_none told c.args.work.now c.new-found.result.items c.new-found.ensures.items;
    }

pub loop-want-preserved : goal.loop-want-preserved
loop-want-preserved g c =
    let told = g.H.Host.files c.args.host.now in
    let now = g.H.Host.files c.loop-want.host in
    let next = g.H.Host.files c.found_for.new.host in
    let stays = KeepsOrStores c.args.work.now (scratch_in c.args.work.now) in record {
      later = omega (arith, c.loop-want.invariant.later, c.found_for.ensures.later);
      no_start = c.found_for.ensures.no_start ∙ c.loop-want.invariant.no_start;
      kept = both_then told now next stays stays stays (stores_then c.args.work.now (scratch_in c.args.work.now)) c.loop-want.invariant.kept c.found_for.ensures.kept;
      found = found_more told now c.args.work.now c.args.wants.now c.loop-want.want-index c.want-item.result c.loop-want.found.items c.add_one.new.found.items c.in_ok-one.one c.loop-want-test.true c.want-item.is
          c.loop-want.invariant.kept c.loop-want.invariant.found c.in_ok-one.ensures.finds c.in_ok-add_one.ensures;
      stored = stored_one now next c.args.work.now c.loop-want.found.items c.add_one.new.found.items c.in_ok-one.one c.found_for.ensures.kept c.loop-want.invariant.stored c.in_ok-one.ensures.stored c.in_ok-add_one.ensures;
    }

pub returns-in_err-one-clause-kept : goal.returns-in_err-one-clause-kept
returns-in_err-one-clause-kept g c =
    let stays = KeepsOrStores c.args.work.now (scratch_in c.args.work.now) in
    both_then (g.H.Host.files c.args.host.now) (g.H.Host.files c.loop-want.host) (g.H.Host.files c.found_for.new.host) stays stays stays (stores_then c.args.work.now (scratch_in c.args.work.now)) c.loop-want.invariant.kept c.found_for.ensures.kept

pub returns-in_err-add_one-clause-kept : goal.returns-in_err-add_one-clause-kept
returns-in_err-add_one-clause-kept g c =
    let stays = KeepsOrStores c.args.work.now (scratch_in c.args.work.now) in
    both_then (g.H.Host.files c.args.host.now) (g.H.Host.files c.loop-want.host) (g.H.Host.files c.found_for.new.host) stays stays stays (stores_then c.args.work.now (scratch_in c.args.work.now)) c.loop-want.invariant.kept c.found_for.ensures.kept

pub returns-in_err-one-clause-finds : goal.returns-in_err-one-clause-finds
returns-in_err-one-clause-finds g c =
    let told = g.H.Host.files c.args.host.now in
    let refusal = c.in_err-one.field-0.0 in
    as_refused told c.args.work.now (map want_of c.args.wants.now) c.from_residual.result refusal c.from_residual.ensures.1
    (without_here told (g.H.Host.files c.loop-want.host) c.args.work.now c.args.wants.now c.loop-want.want-index c.want-item.result c.loop-want.found.items refusal c.loop-want-test.true c.want-item.is
    c.loop-want.invariant.kept c.loop-want.invariant.found c.in_err-one.ensures.finds)

pub returns-in_err-add_one-clause-finds : goal.returns-in_err-add_one-clause-finds
returns-in_err-add_one-clause-finds g c =
    as_refused (g.H.Host.files c.args.host.now) c.args.work.now (map want_of c.args.wants.now) c.from_residual-in_err-add_one.result no_memory c.from_residual-in_err-add_one.ensures.1 tt

pub returns-clause-finds : goal.returns-clause-finds
returns-clause-finds g c =
    found_all (g.H.Host.files c.args.host.now) c.args.work.now c.args.wants.now c.loop-want.want-index c.loop-want.found.items c.loop-want-test.false c.loop-want.invariant.found
