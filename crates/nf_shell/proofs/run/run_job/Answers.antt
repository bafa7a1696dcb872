use Rattle.std.proofs.Common.{◌≡◌, refl, ap, ◌∙◌, subst}
use Rattle.std.specs.Prelude.{IfSome}
use Rattle.nf_job.specs.declared.parts.JobParts.{JobParts}
use Rattle.nf_host.specs.Folders.{folder_of}
use Rattle.nf_shell.specs.Folder.{IsReadyFor}
use Rattle.nf_shell.specs.Places.{job_dir, task_dir}
use Rattle.nf_shell.specs.Runs.{EndsIn}
use Rattle.nf_shell.proofs.Ending.{apart_at, just_one, no_one, nothing_kept}
use Rattle.nf_shell.proofs.Ready.{staged_whole}
use Rattle.nf_shell.proofs.run.run_job.Goals as goal

pub prepare-requires : goal.prepare-requires
prepare-requires g c = apart_at c.args.work.now c.key.result.now.0 c.as_str-dir.result.now (c.as_str-dir.ensures.value ∙ c.in_ok-folder.ensures)

pub run_child-requires : goal.run_child-requires
run_child-requires g c = apart_at c.args.work.now c.key.result.now.0 c.as_str-dir.result.now (c.as_str-dir.ensures.value ∙ c.in_ok-folder.ensures)

pub returns-in_err-folder-clause-kept : goal.returns-in_err-folder-clause-kept
returns-in_err-folder-clause-kept g c = nothing_kept (g.H.Host.files c.args.host.now) c.args.work.now c.args.job.now

pub returns-in_err-folder-clause-starts : goal.returns-in_err-folder-clause-starts
returns-in_err-folder-clause-starts g c = no_one (g.H.Host.files c.args.host.now) c.args.work.now c.args.job.now (g.H.Host.started c.args.host.now) (g.H.Host.started c.args.host.now) refl

pub returns-clause-started : goal.returns-clause-started
returns-clause-started g c =
    let old = g.H.Host.files c.args.host.now in
    let ready = g.H.Host.files c.prepare.new.host in
    let work = c.args.work.now in
    let dir = c.as_str-dir.result.now in
    let report = c.in_ok-report.report in
    let before = g.H.Host.started c.prepare.new.host in
    let after = g.H.Host.started c.run_child.new.host in
    let here : dir ≡ task_dir work c.args.job.now = c.as_str-dir.ensures.value ∙ c.in_ok-folder.ensures ∙ ap (job_dir work) c.key.ensures in
    let whole : IfSome ready (λ h. IsReadyFor c.parts-parts.result.now (folder_of h dir)) =
    staged_whole ready work c.in_ok-damage.field-0 (λ h. IsReadyFor c.parts-parts.result.now (folder_of h dir)) c.in_default.is c.in_ok-damage.ensures.ends in
    just_one old ready work dir c.args.job.now report (g.H.Host.started c.args.host.now) before after here c.prepare.ensures.others c.prepare.ensures.no_start
    (subst (λ (p : JobParts). IfSome ready (λ h. IsReadyFor p (folder_of h dir))) c.parts-parts.ensures.same whole)
    (subst (λ (p : JobParts). IfSome ready (λ f. EndsIn dir p f report before after)) c.parts-parts.ensures.same c.in_ok-report.ensures.started)
