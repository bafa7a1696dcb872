use Rattle.std.proofs.Common.{arith}
use Rattle.std.proofs.lemmas.Map.Text.{text_keys}
use Rattle.std.specs.String.{string_bytes}
use Rattle.nf_host.specs.MemFiles.{files_in, removed}
use Rattle.nf_host.proofs.Paths.{by_each}
use Rattle.nf_host.proofs.mem_files.remove.Goals as goal

pub returns : goal.returns
returns c =
    by_each (files_in c.remove.new.self) (removed (files_in c.args.files.now) (string_bytes c.args.path.now)) (λ q. grind (arith, text_keys))
