use Rattle.std.proofs.Common.{◌∙◌, sym}
use Rattle.nf_found.proofs.AtPath.{last_is, literal_found, literal_refused, matching_found, matching_refused}
use Rattle.nf_found.proofs.files.files_at.Goals as goal

pub returns-then-is_literal-clause-content : goal.returns-then-is_literal-clause-content
returns-then-is_literal-clause-content g c =
    literal_found (g.H.Host.files c.args.host.now) c.args.work.now c.args.path.now c.file_at.result (sym c.is_literal.ensures ∙ c.if-is_literal.true) c.file_at.ensures.content

pub returns-then-is_literal-clause-refused : goal.returns-then-is_literal-clause-refused
returns-then-is_literal-clause-refused g c =
    literal_refused (g.H.Host.files c.args.host.now) c.args.work.now c.args.path.now c.file_at.result (sym c.is_literal.ensures ∙ c.if-is_literal.true) c.file_at.ensures.refused

pub returns-else-is_literal-clause-content : goal.returns-else-is_literal-clause-content
returns-else-is_literal-clause-content g c =
    matching_found (g.H.Host.files c.args.host.now) c.args.work.now c.args.path.now c.folder_at.result.now c.name_at.result.now c.matching_files.result (sym c.is_literal.ensures ∙ c.if-is_literal.false)
    c.folder_at.ensures (last_is c.args.path.now c.name_at.result.now c.name_at.utf8 c.name_at.ensures) c.matching_files.ensures.content

pub returns-else-is_literal-clause-refused : goal.returns-else-is_literal-clause-refused
returns-else-is_literal-clause-refused g c =
    matching_refused (g.H.Host.files c.args.host.now) c.args.work.now c.args.path.now c.folder_at.result.now c.name_at.result.now c.matching_files.result (sym c.is_literal.ensures ∙ c.if-is_literal.false)
    c.folder_at.ensures (last_is c.args.path.now c.name_at.result.now c.name_at.utf8 c.name_at.ensures) c.matching_files.ensures.refused
