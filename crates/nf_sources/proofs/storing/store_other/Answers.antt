use Rattle.std.proofs.Common.{Option}
use Rattle.nf_host.specs.Faults.{Rose}
use Rattle.nf_shell.specs.declared.store.Stored.{Stored}
use Rattle.nf_sources.proofs.Taken.{absent_taken, kept_same, kept_after, long_cause, long_refused, whole_taken}
use Rattle.nf_sources.proofs.storing.store_other.Goals as goal

pub returns-in_err-read-clause-kept : goal.returns-in_err-read-clause-kept
returns-in_err-read-clause-kept g c =
    kept_same (g.H.Host.files c.args.host.now) (g.H.Host.files c.digest_file.new.host) c.args.work.now c.args.scratch.now c.digest_file.ensures.same

pub returns-in-Absent-clause-kept : goal.returns-in-Absent-clause-kept
returns-in-Absent-clause-kept g c =
    kept_same (g.H.Host.files c.args.host.now) (g.H.Host.files c.digest_file.new.host) c.args.work.now c.args.scratch.now c.digest_file.ensures.same

pub returns-in-Absent-clause-content : goal.returns-in-Absent-clause-content
returns-in-Absent-clause-content g c = absent_taken (g.H.Host.files c.args.host.now) c.args.path.now c.in_ok-read.read c.in-Absent.is c.in_ok-read.ensures.content

pub returns-in-TooLong-clause-kept : goal.returns-in-TooLong-clause-kept
returns-in-TooLong-clause-kept g c =
    kept_same (g.H.Host.files c.args.host.now) (g.H.Host.files c.digest_file.new.host) c.args.work.now c.args.scratch.now c.digest_file.ensures.same

pub returns-in-TooLong-clause-cause : goal.returns-in-TooLong-clause-cause
returns-in-TooLong-clause-cause g c =
    long_cause (Option Stored) c.args.path.now c.too_long.result (Rose (g.H.Host.faults c.args.host.now) (g.H.Host.faults c.digest_file.new.host)) c.too_long.ensures

pub returns-in-TooLong-clause-refused : goal.returns-in-TooLong-clause-refused
returns-in-TooLong-clause-refused g c =
    long_refused (g.H.Host.files c.args.host.now) c.args.path.now c.in_ok-read.read c.too_long.result c.in-TooLong.is c.in_ok-read.ensures.content c.too_long.ensures

pub returns-in_err-stored-in-Whole-clause-kept : goal.returns-in_err-stored-in-Whole-clause-kept
returns-in_err-stored-in-Whole-clause-kept g c =
    kept_after (g.H.Host.files c.args.host.now) (g.H.Host.files c.digest_file.new.host) (g.H.Host.files c.store_found.new.host) c.args.work.now c.args.scratch.now c.digest_file.ensures.same c.store_found.ensures.kept

pub returns-in_ok-stored-in-Whole-clause-kept : goal.returns-in_ok-stored-in-Whole-clause-kept
returns-in_ok-stored-in-Whole-clause-kept g c =
    kept_after (g.H.Host.files c.args.host.now) (g.H.Host.files c.digest_file.new.host) (g.H.Host.files c.store_found.new.host) c.args.work.now c.args.scratch.now c.digest_file.ensures.same c.store_found.ensures.kept

pub returns-in_ok-stored-in-Whole-clause-content : goal.returns-in_ok-stored-in-Whole-clause-content
returns-in_ok-stored-in-Whole-clause-content g c =
    whole_taken (g.H.Host.files c.args.host.now) (g.H.Host.files c.digest_file.new.host) c.args.path.now c.in_ok-read.read c.in-Whole.digest c.in-Whole.len c.in_ok-stored-in-Whole.stored c.digest_file.ensures.same c.in-Whole.is c.in_ok-read.ensures.content c.in_ok-stored-in-Whole.ensures.content
