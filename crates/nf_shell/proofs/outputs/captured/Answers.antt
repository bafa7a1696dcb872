use Rattle.std.proofs.Common.{◌≡◌, ◌∙◌, codes, true, rules}
use Rattle.nf_host.specs.Folders.{path_in}
use Rattle.nf_shell.proofs.Ending.{captured_told}
use Rattle.nf_shell.proofs.outputs.captured.Goals as goal

pub returns-clause-content : goal.returns-clause-content
returns-clause-content g c =
    let wanted : c.args.wants_stdout ≡ true = search rules in
    captured_told (g.H.Host.files c.args.host.now) c.as_str.result.now (path_in c.args.dir.now (codes ".command.out")) c.args.wants_stdout c.in_ok-output.output c.captured_of.result wanted
    (c.as_str.ensures.value ∙ c.in_ok-path.ensures) c.captured_of.ensures.content c.in_ok-output.ensures.content
