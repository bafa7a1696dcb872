use Rattle.std.proofs.Common.{refl, ◌∙◌}
use Rattle.nf_host.proofs.Copying.{both_same}
use Rattle.nf_shell.specs.Places.{KeepsOrStores}
use Rattle.nf_shell.proofs.Stores.{stores_all}
use Rattle.nf_sources.specs.Sources.{scratch_in}
use Rattle.nf_plan.specs.Plans.{want_of}
use Rattle.nf_found.specs.Refusal.{no_memory}
use Rattle.nf_found.specs.declared.refusal.FoundRefusal.TheVariants.{Source}
use Rattle.nf_found.proofs.Steps.{found_at, gives_one, long_at, one_refused, source_refused, stored_given}
use Rattle.nf_found.proofs.all.found_for.Goals as goal

pub returns-in_err-path-clause-kept : goal.returns-in_err-path-clause-kept
returns-in_err-path-clause-kept g c =
    let told = g.H.Host.files c.args.host.now in
    both_same told told (KeepsOrStores c.args.work.now (scratch_in c.args.work.now)) (stores_all c.args.work.now (scratch_in c.args.work.now)) refl

pub returns-in_err-path-clause-finds : goal.returns-in_err-path-clause-finds
returns-in_err-path-clause-finds g c =
    one_refused (g.H.Host.files c.args.host.now) c.args.work.now (want_of c.args.want.now) c.from_residual.result no_memory c.from_residual.ensures.1 tt

pub returns-in_err-files-clause-finds : goal.returns-in_err-files-clause-finds
returns-in_err-files-clause-finds g c =
    let told = g.H.Host.files c.args.host.now in
    let refusal = c.in_err-files.field-0.0 in
    one_refused told c.args.work.now (want_of c.args.want.now) c.from_residual-in_err-files.result (Source refusal) c.from_residual-in_err-files.ensures.1
    (source_refused told c.args.work.now (want_of c.args.want.now) refusal (long_at told c.args.work.now c.as_str.result.now c.args.want.now.path refusal (c.as_str.ensures ∙ c.in_ok-path.ensures) c.in_err-files.ensures.refused))

pub returns-clause-finds : goal.returns-clause-finds
returns-clause-finds g c =
    let told = g.H.Host.files c.args.host.now in
    let path = c.args.want.now.path in
    gives_one told c.args.work.now (want_of c.args.want.now) c.in_ok-path.path c.must_exist.result c.in_ok-files.files.items c.some_found.result c.in_ok-path.ensures c.must_exist.ensures
    (found_at told c.args.work.now c.as_str.result.now path c.in_ok-files.files.items (c.as_str.ensures ∙ c.in_ok-path.ensures) c.in_ok-files.ensures.content) c.some_found.ensures

pub returns-clause-stored : goal.returns-clause-stored
returns-clause-stored g c =
    stored_given (g.H.Host.files c.files_at.new.host) c.args.work.now c.in_ok-path.path c.in_ok-files.files.items c.must_exist.result c.some_found.result c.some_found.ensures c.in_ok-files.ensures.stored
