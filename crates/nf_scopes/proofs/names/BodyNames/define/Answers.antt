use Rattle.std.proofs.Common.{◌≡◌, [], map, string_bytes, refl, rules}
use Rattle.nf_scopes.specs.Tables.{Puts}
use Rattle.nf_scopes.proofs.Bodies.{defined_here}
use Rattle.nf_scopes.proofs.Holding.{holds_put}
use Rattle.nf_scopes.proofs.Places.{entries_of, puts_of}
use Rattle.nf_scopes.proofs.names.BodyNames.define.Goals as goal

pub returns : goal.returns
returns c =
    let key = c.args.name.now in
    let old = c.args.self.now.inner in
    let new = c.insert.new.self in
    let tables = map entries_of c.args.self.now.outer.items in
    let same : string_bytes c.in_ok-name.name ≡ key = search rules in
    let puts : Puts key c.args.thing old.entries new.entries = puts_of old new c.in_ok-name.name key c.args.thing same c.in_ok-insert.ensures.updates in
    record {
      stands = λ bags around s t stands h. defined_here bags around key c.args.thing t s _ tables old.entries new.entries stands h.braces h.names refl puts;
      holds = holds_put key c.args.thing old.entries new.entries puts c.args.self.now _ tables [] refl refl refl;
    }
