use Rattle.std.proofs.Common.{◌≡◌, ap, ◌∙◌, map, string_bytes, rules}
use Rattle.nf_host.proofs.MemMaps.{cleared_by}
use Rattle.nf_host.proofs.mem_files.clear.Goals as goal

pub returns-clause-ok : goal.returns-clause-ok
returns-clause-ok c =
    let same : c.deref.result.now ≡ c.in_ok-paths.paths.items = search rules in
    cleared_by c.args.files.now c.remove_all.new.files c.args.dir.now c.deref.result.now (ap (map string_bytes) same ∙ c.in_ok-paths.ensures) c.remove_all.ensures
