use Rattle.std.proofs.Common.{◌≡◌, rules, string_bytes}
use Rattle.nf_declared.proofs.Titles.{has_also}
use Rattle.nf_declared.proofs.names.put.Goals as goal

pub returns : goal.returns
returns c =
    let named : string_bytes c.in_ok-from_str.field-0 ≡ c.args.name.now = search rules in
    has_also c.args.names.now c.insert.new.self c.in_ok-from_str.field-0 c.args.name.now named c.in_ok-insert.ensures.updates
