use Rattle.std.proofs.Common.{◌≡◌, drop}
use Rattle.nf_host.specs.MemFiles.{files_in, without}
use Rattle.nf_host.proofs.mem_files.remove_all.Given as goal

abbrev pub invariant-loop-path : goal.invariant-loop-path
invariant-loop-path l =
    without (files_in l.files) (drop l.path-index l.paths) ≡ without (files_in l.initial.files) l.paths
