use Rattle.std.proofs.Common.{ℕ, List, refl, sym, subst, ◌∙◌, arith}
use Rattle.std.specs.Prelude.{Result, IfErr, IfSome, Vec}
use Rattle.std.specs.Global.{Global}
use Rattle.nf_value.specs.declared.file.FileRef.{FileRef}
use Rattle.nf_host.specs.Folders.{path_in}
use Rattle.nf_host.proofs.Copying.{both_then, both_same}
use Rattle.nf_shell.specs.Places.{KeepsOrStores}
use Rattle.nf_shell.proofs.Stores.{stores_all, stores_then}
use Rattle.nf_sources.specs.Sources.{IsFirstLong, IsOutside, OnTooLong, scratch_in}
use Rattle.nf_sources.specs.declared.fault.SourceRefusal.{SourceRefusal}
use Rattle.nf_sources.proofs.Found.{content_first, content_more, content_all, err_is, long_first, stored_first, stored_more}
use Rattle.nf_sources.proofs.matching.files_among.Goals as goal

pub loop-name-init : goal.loop-name-init
loop-name-init g c =
    let told = g.H.Host.files c.args.host.now in record {
      later = omega arith;
      no_start = refl;
      kept = both_same told told (KeepsOrStores c.args.work.now (scratch_in c.args.work.now)) (stores_all c.args.work.now (scratch_in c.args.work.now)) refl;
      content = λ clear. content_first told c.args.folder.now c.args.pattern.now c.args.names.now c.new-files.result.items c.new-files.ensures.items;
      stored = stored_first told c.args.work.now c.new-files.result.items c.new-files.ensures.items;
    }

pub loop-name-preserved : goal.loop-name-preserved
loop-name-preserved g c =
    let told = g.H.Host.files c.args.host.now in
    let now = g.H.Host.files c.loop-name.host in
    let next = g.H.Host.files c.file_of.new.host in
    let stays = KeepsOrStores c.args.work.now (scratch_in c.args.work.now) in record {
      later = omega (arith, c.loop-name.invariant.later, c.file_of.ensures.later);
      no_start = c.file_of.ensures.no_start ∙ c.loop-name.invariant.no_start;
      kept = both_then told now next stays stays stays (stores_then c.args.work.now (scratch_in c.args.work.now)) c.loop-name.invariant.kept c.file_of.ensures.kept;
      content = λ clear. content_more told now c.args.work.now c.args.folder.now c.args.pattern.now c.args.names.now c.loop-name.name-index c.name-item.result c.loop-name.files.items c.push_found.new.files.items c.in_ok-file.file c.loop-name-test.true c.name-item.is
          c.loop-name.invariant.kept c.in_ok-push_found.ensures (subst (λ (n : List ℕ). IsOutside c.args.work.now (path_in c.args.folder.now n)) (sym c.name-item.is) (clear c.loop-name.name-index c.name-item.result c.loop-name-test.true)) (c.loop-name.invariant.content clear)
          (c.in_ok-file.ensures.content (subst (λ (n : List ℕ). IsOutside c.args.work.now (path_in c.args.folder.now n)) (sym c.name-item.is) (clear c.loop-name.name-index c.name-item.result c.loop-name-test.true)));
      stored = stored_more now next c.args.work.now c.loop-name.files.items c.push_found.new.files.items c.in_ok-file.file c.file_of.ensures.kept c.loop-name.invariant.stored c.in_ok-file.ensures.stored c.in_ok-push_found.ensures;
    }

pub returns-in_err-file-clause-kept : goal.returns-in_err-file-clause-kept
returns-in_err-file-clause-kept g c =
    let stays = KeepsOrStores c.args.work.now (scratch_in c.args.work.now) in
    both_then (g.H.Host.files c.args.host.now) (g.H.Host.files c.loop-name.host) (g.H.Host.files c.file_of.new.host) stays stays stays (stores_then c.args.work.now (scratch_in c.args.work.now)) c.loop-name.invariant.kept c.file_of.ensures.kept

pub returns-in_err-push_found-clause-kept : goal.returns-in_err-push_found-clause-kept
returns-in_err-push_found-clause-kept g c =
    let stays = KeepsOrStores c.args.work.now (scratch_in c.args.work.now) in
    both_then (g.H.Host.files c.args.host.now) (g.H.Host.files c.loop-name.host) (g.H.Host.files c.file_of.new.host) stays stays stays (stores_then c.args.work.now (scratch_in c.args.work.now)) c.loop-name.invariant.kept c.file_of.ensures.kept

pub returns-clause-content : goal.returns-clause-content
returns-clause-content g c = λ clear.
    content_all (g.H.Host.files c.args.host.now) c.args.folder.now c.args.pattern.now c.args.names.now c.loop-name.name-index c.loop-name.files.items c.loop-name-test.false (c.loop-name.invariant.content clear)

pub returns-in_err-file-clause-refused : goal.returns-in_err-file-clause-refused
returns-in_err-file-clause-refused g c = λ clear.
    let told = g.H.Host.files c.args.host.now in
    let refusal = c.in_err-file.field-0.0 in
    let here : IsOutside c.args.work.now (path_in c.args.folder.now c.name-item.result) = subst (λ (n : List ℕ). IsOutside c.args.work.now (path_in c.args.folder.now n)) (sym c.name-item.is) (clear c.loop-name.name-index c.name-item.result c.loop-name-test.true) in
    subst (λ (r : Result (Vec FileRef Global) SourceRefusal). IfErr r (λ e. OnTooLong e (λ path. IfSome told (λ f. IsFirstLong f c.args.folder.now c.args.pattern.now c.args.names.now path)))) (sym (err_is c.from_residual.result refusal c.from_residual.ensures.1))
    (long_first told (g.H.Host.files c.loop-name.host) c.args.work.now c.args.folder.now c.args.pattern.now c.args.names.now c.loop-name.name-index c.name-item.result c.loop-name.files.items refusal c.loop-name-test.true c.name-item.is
    c.loop-name.invariant.kept here (c.loop-name.invariant.content clear) c.in_err-file.ensures.refused)
