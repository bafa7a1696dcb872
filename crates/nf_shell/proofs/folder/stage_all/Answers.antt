use Rattle.std.proofs.Common.{◌∙◌, arith}
use Rattle.nf_host.specs.Folders.{path_in}
use Rattle.nf_shell.specs.Folder.{HasDigest}
use Rattle.nf_shell.proofs.Ready.{readies_all, readies_next, staged_whole, written_outside}
use Rattle.nf_shell.proofs.folder.stage_all.Goals as goal

pub returns-in_err-damage-clause-others : goal.returns-in_err-damage-clause-others
returns-in_err-damage-clause-others g c =
    written_outside (g.H.Host.files c.args.host.now) (g.H.Host.files c.loop-file.host) (g.H.Host.files c.stage.new.host) c.args.dir.now c.file-item.result.name c.loop-file.invariant.others c.stage.ensures.others

pub returns-in-Some-clause-others : goal.returns-in-Some-clause-others
returns-in-Some-clause-others g c =
    written_outside (g.H.Host.files c.args.host.now) (g.H.Host.files c.loop-file.host) (g.H.Host.files c.stage.new.host) c.args.dir.now c.file-item.result.name c.loop-file.invariant.others c.stage.ensures.others

pub loop-file-preserved : goal.loop-file-preserved
loop-file-preserved g c =
    let told = g.H.Host.files c.args.host.now in
    let now = g.H.Host.files c.loop-file.host in
    let next = g.H.Host.files c.stage.new.host in record {
      later = omega (arith, c.loop-file.invariant.later, c.stage.ensures.later);
      no_start = c.stage.ensures.no_start ∙ c.loop-file.invariant.no_start;
      others = written_outside told now next c.args.dir.now c.file-item.result.name c.loop-file.invariant.others c.stage.ensures.others;
      readied = readies_next told now next c.args.dir.now c.args.files.now c.loop-file.file-index c.file-item.result c.loop-file-test.true c.file-item.is c.loop-file.invariant.readied c.stage.ensures.others
          (staged_whole next c.args.work.now c.in_ok-damage.field-0 (λ h. HasDigest (h (path_in c.args.dir.now c.file-item.result.name)) c.file-item.result.digest.0) c.in_default.is c.in_ok-damage.ensures.ends);
    }

pub returns-clause-ends : goal.returns-clause-ends
returns-clause-ends g c =
    readies_all (g.H.Host.files c.args.host.now) (g.H.Host.files c.loop-file.host) c.args.work.now c.args.dir.now c.args.files.now c.loop-file.file-index c.loop-file-test.false c.loop-file.invariant.readied
