use Rattle.nf_shell.proofs.Names.{names_more}
use Rattle.nf_shell.proofs.staged.StagedNames.of.Goals as goal

pub loop-file-preserved : goal.loop-file-preserved
loop-file-preserved c = λ name.
    names_more c.args.files.now c.loop-file.file-index c.file-item.result c.as_str.result name c.loop-file.names c.insert.new.self c.loop-file-test.true c.file-item.is c.as_str.ensures (c.in_ok-insert.ensures.updates.0 name) (c.loop-file.invariant name)
