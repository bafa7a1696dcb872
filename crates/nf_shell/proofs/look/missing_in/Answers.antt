use Rattle.std.proofs.Common.{◌∙◌, ap}
use Rattle.nf_shell.specs.Outputs.{is_among}
use Rattle.nf_shell.proofs.Looking.{named_at}
use Rattle.nf_shell.proofs.look.missing_in.Goals as goal

pub returns-then-not-branch-clause-named : goal.returns-then-not-branch-clause-named
returns-then-not-branch-clause-named g c =
    ap (is_among c.args.files.now) c.in_ok-copy.ensures ∙ named_at c.args.files.now c.loop-file.file-index c.file-item.result c.loop-file-test.true c.file-item.is
