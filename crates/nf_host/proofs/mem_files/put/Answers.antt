use Rattle.std.proofs.Common.{arith}
use Rattle.std.proofs.lemmas.Map.Text.{text_keys}
use Rattle.nf_host.specs.Files.{put}
use Rattle.nf_host.specs.MemFiles.{files_in}
use Rattle.nf_host.proofs.Paths.{by_each}
use Rattle.nf_host.proofs.mem_files.put.Goals as goal

pub returns-clause-ok : goal.returns-clause-ok
returns-clause-ok c =
    by_each (files_in c.insert.new.self) (put (files_in c.args.files.now) c.args.path.now c.args.bytes.now) (λ q. grind (arith, text_keys))
