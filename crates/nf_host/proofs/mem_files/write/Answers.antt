use Rattle.std.proofs.Common.{◌≡◌, ap, rules}
use Rattle.nf_host.specs.Files.{put}
use Rattle.nf_host.specs.Folders.{path_in}
use Rattle.nf_host.specs.MemFiles.{files_in}
use Rattle.nf_host.proofs.Writes.{put_inside}
use Rattle.nf_host.proofs.mem_files.write.Goals as goal

pub returns-in_err-put-clause-others : goal.returns-in_err-put-clause-others
returns-in_err-put-clause-others c = λ q out. ap (λ h. h q) c.in_err-put.ensures.err

pub returns-clause-others : goal.returns-clause-others
returns-clause-others c =
    let e : files_in c.put.new.files ≡ put (files_in c.args.files.now) (path_in c.args.dir.now c.args.item.now.0) c.args.item.now.1 = search rules in
    put_inside (files_in c.args.files.now) (files_in c.put.new.files) c.args.dir.now c.args.item.now.0 c.args.item.now.1 e
