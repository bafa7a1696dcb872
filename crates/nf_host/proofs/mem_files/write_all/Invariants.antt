use Rattle.std.proofs.Common.{◌≡◌, drop}
use Rattle.nf_host.specs.Folders.{KeepsOutside}
use Rattle.nf_host.specs.MemFiles.{files_in, written}
use Rattle.nf_host.proofs.mem_files.write_all.Given as goal

abbrev pub invariant-loop-item : goal.invariant-loop-item
invariant-loop-item l =
    (written (files_in l.files) l.dir (drop l.item-index l.items) ≡ written (files_in l.initial.files) l.dir l.items)
    × KeepsOutside l.dir (files_in l.initial.files) (files_in l.files)
