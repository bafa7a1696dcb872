use Rattle.std.proofs.Common.{◌≡◌, ◌∙◌, rules}
use Rattle.nf_taken.proofs.Files.{file_named}
use Rattle.nf_taken.proofs.paths.file_name.Goals as goal

pub returns : goal.returns
returns c =
    let same : c.of.result ≡ c.name_at-last.result.now = search rules in
    same ∙ file_named c.args.path.now c.name_at-last.result.now c.name_at-last.utf8 c.name_at-last.ensures
