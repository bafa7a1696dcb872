use Rattle.std.proofs.Common.{◌≡◌, ◌++◌, map, string_bytes}
use Rattle.std.specs.BTreeMap.{keys}
use Rattle.std.specs.List.{filter_map}
use Rattle.nf_host.specs.Folders.{own_name}
use Rattle.nf_host.proofs.mem_files.own_names.Given as goal

abbrev pub invariant-loop-path : goal.invariant-loop-path
invariant-loop-path l =
    l.names.items ++ filter_map (own_name l.dir) (map string_bytes l.path-iterator) ≡ filter_map (own_name l.dir) (map string_bytes (keys l.files))
