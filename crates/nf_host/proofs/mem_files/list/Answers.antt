use Rattle.std.proofs.Common.{sym, ◌∙◌}
use Rattle.nf_host.proofs.Listings.{listed_some, listed_none}
use Rattle.nf_host.proofs.mem_files.list.Goals as goal

pub returns-then-has_path_in : goal.returns-then-has_path_in
returns-then-has_path_in c =
    listed_some c.args.files.now c.args.dir.now c.in_ok-names.names.items c.own_names.ensures.sorted c.in_ok-names.ensures.names (sym c.has_path_in.ensures ∙ c.if-has_path_in.true)

pub returns-else-has_path_in : goal.returns-else-has_path_in
returns-else-has_path_in c =
    listed_none c.args.files.now c.args.dir.now (sym c.has_path_in.ensures ∙ c.if-has_path_in.false)
