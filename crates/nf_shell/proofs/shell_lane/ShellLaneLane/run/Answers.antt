use Rattle.std.proofs.Common.{◌≡◌, subst}
use Rattle.std.specs.Prelude.{IfSome}
use Rattle.nf_shell.specs.Damages.{HasOneMore}
use Rattle.nf_shell.specs.Runs.{StartsFor}
use Rattle.nf_shell.specs.declared.run.Ran.{Ran}
use Rattle.nf_shell.proofs.Counting.{none_added, one_added}
use Rattle.nf_shell.proofs.Stores.{grows_told}
use Rattle.nf_shell.proofs.shell_lane.ShellLaneLane.run.Goals as goal

pub returns-in_err-report-clause-grows : goal.returns-in_err-report-clause-grows
returns-in_err-report-clause-grows g c =
    grows_told (g.H.Host.files c.args.self.now.host) (g.H.Host.files c.run_job.new.host) c.as_str.result.now c.args.self.now.work c.args.job.now c.as_str.ensures c.run_job.ensures.kept

pub returns-in_err-of-in-Ended-clause-grows : goal.returns-in_err-of-in-Ended-clause-grows
returns-in_err-of-in-Ended-clause-grows g c =
    grows_told (g.H.Host.files c.args.self.now.host) (g.H.Host.files c.run_job.new.host) c.as_str.result.now c.args.self.now.work c.args.job.now c.as_str.ensures c.run_job.ensures.kept

pub returns-in_err-push-in-Damaged-clause-grows : goal.returns-in_err-push-in-Damaged-clause-grows
returns-in_err-push-in-Damaged-clause-grows g c =
    grows_told (g.H.Host.files c.args.self.now.host) (g.H.Host.files c.run_job.new.host) c.as_str.result.now c.args.self.now.work c.args.job.now c.as_str.ensures c.run_job.ensures.kept

pub returns-in_ok-of-in-Ended-clause-grows : goal.returns-in_ok-of-in-Ended-clause-grows
returns-in_ok-of-in-Ended-clause-grows g c =
    grows_told (g.H.Host.files c.args.self.now.host) (g.H.Host.files c.run_job.new.host) c.as_str.result.now c.args.self.now.work c.args.job.now c.as_str.ensures c.run_job.ensures.kept

pub returns-in_ok-push-in-Damaged-clause-grows : goal.returns-in_ok-push-in-Damaged-clause-grows
returns-in_ok-push-in-Damaged-clause-grows g c =
    grows_told (g.H.Host.files c.args.self.now.host) (g.H.Host.files c.run_job.new.host) c.as_str.result.now c.args.self.now.work c.args.job.now c.as_str.ensures c.run_job.ensures.kept

pub returns-in_err-report-clause-spared : goal.returns-in_err-report-clause-spared
returns-in_err-report-clause-spared g c =
    none_added (g.H.Host.files c.args.self.now.host) c.args.self.now.damages.items (g.H.Host.started c.run_job.new.host ≡ g.H.Host.started c.args.self.now.host)

pub returns-in_err-of-in-Ended-clause-spared : goal.returns-in_err-of-in-Ended-clause-spared
returns-in_err-of-in-Ended-clause-spared g c =
    none_added (g.H.Host.files c.args.self.now.host) c.args.self.now.damages.items (g.H.Host.started c.run_job.new.host ≡ g.H.Host.started c.args.self.now.host)

pub returns-in_ok-of-in-Ended-clause-spared : goal.returns-in_ok-of-in-Ended-clause-spared
returns-in_ok-of-in-Ended-clause-spared g c =
    none_added (g.H.Host.files c.args.self.now.host) c.args.self.now.damages.items (g.H.Host.started c.run_job.new.host ≡ g.H.Host.started c.args.self.now.host)

pub returns-in_err-push-in-Damaged-clause-spared : goal.returns-in_err-push-in-Damaged-clause-spared
returns-in_err-push-in-Damaged-clause-spared g c =
    let told = g.H.Host.files c.args.self.now.host in
    let before = g.H.Host.started c.args.self.now.host in
    let after = g.H.Host.started c.run_job.new.host in
    one_added told (HasOneMore c.args.self.now.damages.items c.push.new.self.items) (after ≡ before)
    (subst (λ (v : Ran). IfSome told (λ _. StartsFor c.as_str.result.now c.args.job.now before after v)) c.in-Damaged.is c.in_ok-report.ensures.started)

pub returns-in_ok-push-in-Damaged-clause-spared : goal.returns-in_ok-push-in-Damaged-clause-spared
returns-in_ok-push-in-Damaged-clause-spared g c =
    let told = g.H.Host.files c.args.self.now.host in
    let before = g.H.Host.started c.args.self.now.host in
    let after = g.H.Host.started c.run_job.new.host in
    one_added told (HasOneMore c.args.self.now.damages.items c.push.new.self.items) (after ≡ before)
    (subst (λ (v : Ran). IfSome told (λ _. StartsFor c.as_str.result.now c.args.job.now before after v)) c.in-Damaged.is c.in_ok-report.ensures.started)
