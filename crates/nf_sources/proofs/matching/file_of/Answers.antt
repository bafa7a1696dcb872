use Rattle.std.proofs.Common.{ap, sym, ◌∙◌, ◌≡◌, ℕ, List, true}
use Rattle.std.specs.Str.{chars}
use Rattle.nf_host.specs.Folders.{path_in}
use Rattle.nf_pattern.specs.Glob.{is_match}
use Rattle.nf_shell.specs.Outputs.{ref_of}
use Rattle.nf_sources.proofs.Found.{file_taken}
use Rattle.nf_sources.proofs.matching.file_of.Goals as goal

pub returns-clause-content : goal.returns-clause-content
returns-clause-content g c =
    let name = c.args.name.now in
    let matched : is_match (chars c.args.pattern.now) (chars name) ≡ true = ap (λ (n : List ℕ). is_match (chars c.args.pattern.now) (chars n)) (sym c.as_str.ensures) ∙ sym c.glob.ensures ∙ c.if-not-glob.false in
    file_taken (g.H.Host.files c.args.host.now) c.args.work.now c.args.folder.now c.args.pattern.now name c.as_str-3.result.now c.in_ok-stored.stored _
    (c.as_str-3.ensures.value ∙ c.in_ok-path.ensures ∙ ap (path_in c.args.folder.now) c.as_str-2.ensures) matched (ap (ref_of name) (sym c.in-None.is)) c.in_ok-stored.ensures.content
