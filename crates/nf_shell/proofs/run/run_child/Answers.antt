use Rattle.std.proofs.Common.{◌≡◌, ◌∙◌, rules, w32, to_z, of_z}
use Rattle.std.specs.Fmt.{signed_decimal}
use Rattle.nf_job.specs.declared.report.Report.{Report}
use Rattle.nf_shell.proofs.Ending.{child_kept, exit_kept, read_kept, all_kept, ended_in, left_report, none_in, report_told, started_in}
use Rattle.nf_shell.proofs.run.run_child.Goals as goal

pub returns-in_err-exit-clause-kept : goal.returns-in_err-exit-clause-kept
returns-in_err-exit-clause-kept g c =
    child_kept (g.H.Host.files c.args.host.now) (g.H.Host.files c.child.new.self) c.args.work.now c.args.dir.now c.child.ensures.others

pub returns-in_err-write_exit-clause-kept : goal.returns-in_err-write_exit-clause-kept
returns-in_err-write_exit-clause-kept g c =
    exit_kept (g.H.Host.files c.args.host.now) (g.H.Host.files c.child.new.self) (g.H.Host.files c.write_exit.new.host) c.args.work.now c.args.dir.now c.child.ensures.others c.write_exit.ensures.others

pub returns-in_err-captured-clause-kept : goal.returns-in_err-captured-clause-kept
returns-in_err-captured-clause-kept g c =
    read_kept (g.H.Host.files c.args.host.now) (g.H.Host.files c.child.new.self) (g.H.Host.files c.write_exit.new.host) (g.H.Host.files c.captured.new.host) c.args.work.now c.args.dir.now c.child.ensures.others c.write_exit.ensures.others c.captured.ensures.same

pub returns-in_err-found-clause-kept : goal.returns-in_err-found-clause-kept
returns-in_err-found-clause-kept g c =
    all_kept (g.H.Host.files c.args.host.now) (g.H.Host.files c.child.new.self) (g.H.Host.files c.write_exit.new.host) (g.H.Host.files c.captured.new.host) (g.H.Host.files c.found.new.host) c.args.work.now c.args.dir.now c.child.ensures.others c.write_exit.ensures.others c.captured.ensures.same c.found.ensures.kept

pub returns-clause-kept : goal.returns-clause-kept
returns-clause-kept g c =
    all_kept (g.H.Host.files c.args.host.now) (g.H.Host.files c.child.new.self) (g.H.Host.files c.write_exit.new.host) (g.H.Host.files c.captured.new.host) (g.H.Host.files c.found.new.host) c.args.work.now c.args.dir.now c.child.ensures.others c.write_exit.ensures.others c.captured.ensures.same c.found.ensures.kept

pub returns-clause-report : goal.returns-clause-report
returns-clause-report g c =
    report_told (g.H.Host.files c.child.new.self) (g.H.Host.files c.write_exit.new.host) (g.H.Host.files c.captured.new.host) (g.H.Host.files c.found.new.host) c.args.work.now c.args.dir.now c.args.parts.now (record { exit = to_z w32 (of_z w32 c.in_ok-exit.exit); captured = c.in_ok-captured.captured; found = c.in_ok-found.found }) c.requires
    c.in_ok-write_exit.ensures.written c.captured.ensures.same c.in_ok-captured.ensures.content c.found.ensures.kept c.in_ok-found.ensures.content c.in_ok-found.ensures.stored

pub returns-clause-started : goal.returns-clause-started
returns-clause-started g c =
    let report : Report = record { exit = to_z w32 (of_z w32 c.in_ok-exit.exit); captured = c.in_ok-captured.captured; found = c.in_ok-found.found } in
    let is : to_z w32 (of_z w32 c.in_ok-exit.exit) ≡ c.in_ok-exit.exit = search rules in
    let left = g.H.Host.files c.child.new.self in
    ended_in (g.H.Host.files c.args.host.now) left c.args.dir.now c.args.parts.now report c.in_ok-exit.exit (g.H.Host.started c.args.host.now) (g.H.Host.started c.child.new.self) (g.H.Host.started c.found.new.host) is
    (c.found.ensures.no_start ∙ c.captured.ensures.no_start ∙ c.write_exit.ensures.no_start) c.in_ok-exit.ensures.start
    (left_report left (g.H.Host.files c.write_exit.new.host) (g.H.Host.files c.captured.new.host) c.args.dir.now (signed_decimal report.exit) c.args.parts.now report c.in_ok-write_exit.ensures.written c.captured.ensures.same c.in_ok-captured.ensures.content c.in_ok-found.ensures.content)

pub returns-in_err-exit-clause-starts : goal.returns-in_err-exit-clause-starts
returns-in_err-exit-clause-starts g c = none_in (g.H.Host.files c.args.host.now) c.args.dir.now (g.H.Host.started c.args.host.now) (g.H.Host.started c.child.new.self) c.in_err-exit.ensures.no_start

pub returns-in_err-write_exit-clause-starts : goal.returns-in_err-write_exit-clause-starts
returns-in_err-write_exit-clause-starts g c =
    started_in (g.H.Host.files c.args.host.now) (g.H.Host.files c.child.new.self) c.args.dir.now c.in_ok-exit.exit (g.H.Host.started c.args.host.now) (g.H.Host.started c.child.new.self) (g.H.Host.started c.write_exit.new.host) c.write_exit.ensures.no_start c.in_ok-exit.ensures.start

pub returns-in_err-captured-clause-starts : goal.returns-in_err-captured-clause-starts
returns-in_err-captured-clause-starts g c =
    started_in (g.H.Host.files c.args.host.now) (g.H.Host.files c.child.new.self) c.args.dir.now c.in_ok-exit.exit (g.H.Host.started c.args.host.now) (g.H.Host.started c.child.new.self) (g.H.Host.started c.captured.new.host) (c.captured.ensures.no_start ∙ c.write_exit.ensures.no_start) c.in_ok-exit.ensures.start

pub returns-in_err-found-clause-starts : goal.returns-in_err-found-clause-starts
returns-in_err-found-clause-starts g c =
    started_in (g.H.Host.files c.args.host.now) (g.H.Host.files c.child.new.self) c.args.dir.now c.in_ok-exit.exit (g.H.Host.started c.args.host.now) (g.H.Host.started c.child.new.self) (g.H.Host.started c.found.new.host) (c.found.ensures.no_start ∙ c.captured.ensures.no_start ∙ c.write_exit.ensures.no_start) c.in_ok-exit.ensures.start

pub returns-clause-starts : goal.returns-clause-starts
returns-clause-starts g c =
    started_in (g.H.Host.files c.args.host.now) (g.H.Host.files c.child.new.self) c.args.dir.now c.in_ok-exit.exit (g.H.Host.started c.args.host.now) (g.H.Host.started c.child.new.self) (g.H.Host.started c.found.new.host) (c.found.ensures.no_start ∙ c.captured.ensures.no_start ∙ c.write_exit.ensures.no_start) c.in_ok-exit.ensures.start
