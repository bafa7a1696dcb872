use Rattle.std.proofs.Common.{◌≡◌, drop}
use Rattle.nf_shell.specs.Outputs.{is_among}
use Rattle.nf_shell.proofs.outputs.is_among.Given as goal

abbrev pub invariant-loop-file : goal.invariant-loop-file
invariant-loop-file l = is_among (drop l.file-index l.files) l.name ≡ is_among l.files l.name
