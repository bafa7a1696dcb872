use Rattle.nf_host.proofs.MemMaps.{folder_is}
use Rattle.nf_host.proofs.mem_files.folder.Goals as goal

pub returns : goal.returns
returns c = folder_is c.args.files.now c.args.dir.now c.in_ok-items.items.items c.in_ok-items.ensures
