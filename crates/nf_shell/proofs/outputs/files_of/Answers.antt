use Rattle.std.proofs.Common.{refl, ◌∙◌, arith}
use Rattle.nf_host.proofs.Copying.{both_then, both_same}
use Rattle.nf_shell.specs.Outputs.{scratch_in}
use Rattle.nf_shell.specs.Places.{KeepsOrStores}
use Rattle.nf_shell.proofs.Listed.{content_first, content_more, content_all, stored_first, stored_more}
use Rattle.nf_shell.proofs.Stores.{stores_all, stores_then}
use Rattle.nf_shell.proofs.outputs.files_of.Goals as goal

pub loop-name-init : goal.loop-name-init
loop-name-init g c =
    let told = g.H.Host.files c.args.host.now in record {
      later = omega arith;
      no_start = refl;
      kept = both_same told told (KeepsOrStores c.args.work.now (scratch_in c.args.dir.now)) (stores_all c.args.work.now (scratch_in c.args.dir.now)) refl;
      content = content_first told c.args.dir.now c.args.pattern.now c.args.staged.now.files.now c.args.names.now c.new-files.result.items c.new-files.ensures.items;
      stored = stored_first told c.args.work.now c.new-files.result.items c.new-files.ensures.items;
    }

pub loop-name-preserved : goal.loop-name-preserved
loop-name-preserved g c =
    let told = g.H.Host.files c.args.host.now in
    let now = g.H.Host.files c.loop-name.host in
    let next = g.H.Host.files c.output_of.new.host in
    let stays = KeepsOrStores c.args.work.now (scratch_in c.args.dir.now) in record {
      later = omega (arith, c.loop-name.invariant.later, c.output_of.ensures.later);
      no_start = c.output_of.ensures.no_start ∙ c.loop-name.invariant.no_start;
      kept = both_then told now next stays stays stays (stores_then c.args.work.now (scratch_in c.args.dir.now)) c.loop-name.invariant.kept c.output_of.ensures.kept;
      content = content_more told now c.args.work.now c.args.dir.now c.args.pattern.now c.args.staged.now.files.now c.args.names.now c.loop-name.name-index c.name-item.result c.loop-name.files.items c.push_found.new.files.items c.in_ok-file.file c.requires c.loop-name-test.true c.name-item.is
          c.loop-name.invariant.kept c.loop-name.invariant.content c.in_ok-file.ensures.content c.in_ok-push_found.ensures;
      stored = stored_more now next c.args.work.now c.args.dir.now c.loop-name.files.items c.push_found.new.files.items c.in_ok-file.file c.requires c.output_of.ensures.kept c.loop-name.invariant.stored c.in_ok-file.ensures.stored c.in_ok-push_found.ensures;
    }

pub returns-in_err-file-clause-kept : goal.returns-in_err-file-clause-kept
returns-in_err-file-clause-kept g c =
    let stays = KeepsOrStores c.args.work.now (scratch_in c.args.dir.now) in
    both_then (g.H.Host.files c.args.host.now) (g.H.Host.files c.loop-name.host) (g.H.Host.files c.output_of.new.host) stays stays stays (stores_then c.args.work.now (scratch_in c.args.dir.now)) c.loop-name.invariant.kept c.output_of.ensures.kept

pub returns-in_err-push_found-clause-kept : goal.returns-in_err-push_found-clause-kept
returns-in_err-push_found-clause-kept g c =
    let stays = KeepsOrStores c.args.work.now (scratch_in c.args.dir.now) in
    both_then (g.H.Host.files c.args.host.now) (g.H.Host.files c.loop-name.host) (g.H.Host.files c.output_of.new.host) stays stays stays (stores_then c.args.work.now (scratch_in c.args.dir.now)) c.loop-name.invariant.kept c.output_of.ensures.kept

pub returns-clause-content : goal.returns-clause-content
returns-clause-content g c =
    content_all (g.H.Host.files c.args.host.now) c.args.dir.now c.args.pattern.now c.args.staged.now.files.now c.args.names.now c.loop-name.name-index c.loop-name.files.items c.loop-name-test.false c.loop-name.invariant.content
