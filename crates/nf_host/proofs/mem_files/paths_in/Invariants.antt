use Rattle.std.proofs.Common.{◌≡◌, ◌++◌, map, filter, string_bytes}
use Rattle.std.specs.BTreeMap.{keys}
use Rattle.nf_host.specs.Folders.{is_in}
use Rattle.nf_host.proofs.mem_files.paths_in.Given as goal

abbrev pub invariant-loop-path : goal.invariant-loop-path
invariant-loop-path l =
    map string_bytes l.paths.items ++ filter (is_in l.dir) (map string_bytes l.path-iterator) ≡ filter (is_in l.dir) (map string_bytes (keys l.files))
