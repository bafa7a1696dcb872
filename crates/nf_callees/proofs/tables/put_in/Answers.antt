use Rattle.std.proofs.Common.{◌≡◌, string_bytes, rules}
use Rattle.nf_callees.proofs.Puts.{puts_of}
use Rattle.nf_callees.proofs.tables.put_in.Goals as goal

pub returns : goal.returns
returns g c =
    let same : string_bytes c.in_ok-from_str.field-0 ≡ c.args.name.now = search rules in
    puts_of c.args.table.now c.insert.new.self c.in_ok-from_str.field-0 c.args.name.now c.args.definition same c.in_ok-insert.ensures.updates
