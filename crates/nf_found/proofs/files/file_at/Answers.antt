use Rattle.nf_found.proofs.AtPath.{file_stored, file_there}
use Rattle.nf_found.proofs.files.file_at.Goals as goal

pub returns-clause-content : goal.returns-clause-content
returns-clause-content g c =
    file_there (g.H.Host.files c.args.host.now) c.args.work.now c.args.path.now c.in_ok-file.file c.in_ok-files.files.items c.in_ok-files.ensures c.in_ok-file.ensures.content c.in_ok-file.ensures.named

pub returns-clause-stored : goal.returns-clause-stored
returns-clause-stored g c =
    file_stored (g.H.Host.files c.literal_file.new.host) c.args.work.now c.in_ok-file.file c.in_ok-files.files.items c.in_ok-files.ensures c.in_ok-file.ensures.stored
