use Rattle.std.proofs.Common.{◌≡◌, map, string_bytes}
use Rattle.std.specs.BTreeMap.{keys}
use Rattle.std.specs.List.{list_any}
use Rattle.nf_host.specs.Folders.{is_in}
use Rattle.nf_host.proofs.mem_files.has_path_in.Given as goal

abbrev pub invariant-loop-path : goal.invariant-loop-path
invariant-loop-path l =
    list_any (is_in l.dir) (map string_bytes l.path-iterator) ≡ list_any (is_in l.dir) (map string_bytes (keys l.files))
