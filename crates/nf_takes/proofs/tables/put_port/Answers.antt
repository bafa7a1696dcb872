use Rattle.std.proofs.Common.{◌≡◌, string_bytes, rules}
use Rattle.nf_scopes.specs.declared.things.Thing.TheVariants as thing
use Rattle.nf_scopes.proofs.Places.{puts_of}
use Rattle.nf_takes.proofs.tables.put_port.Goals as goal

pub returns : goal.returns
returns c =
    let same : string_bytes c.in_ok-from_str.field-0 ≡ c.args.name.now = search rules in
    puts_of c.args.table.now c.insert.new.self c.in_ok-from_str.field-0 c.args.name.now (thing.Channel c.args.port) same c.in_ok-insert.ensures.updates
