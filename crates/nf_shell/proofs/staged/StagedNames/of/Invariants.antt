use Rattle.std.proofs.Common.{◌≡◌, ℕ, List, Bor, take}
use Rattle.std.specs.BTreeSet.{contains}
use Rattle.nf_shell.specs.Outputs.{is_among}
use Rattle.nf_shell.specs.Staged.{name_cmp}
use Rattle.nf_shell.proofs.staged.StagedNames.of.Given as goal

abbrev pub invariant-loop-file : goal.invariant-loop-file
invariant-loop-file l = (name : Bor (List ℕ)) → contains name_cmp l.names name ≡ is_among (take l.file-index l.files) name.now
