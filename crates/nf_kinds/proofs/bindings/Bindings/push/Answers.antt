use Rattle.std.proofs.Common.{◌≡◌, ◌++◌, ◌∷◌, [], length, string_bytes, rules}
use Rattle.nf_kinds.proofs.Latest.{places_more}
use Rattle.nf_kinds.proofs.bindings.Bindings.push.Goals as goal

pub invariant_of-self-2 : goal.invariant_of-self-2
invariant_of-self-2 c =
    let items = c.self.inside.items in
    let same : string_bytes c.in_ok-key.key ≡ c.args.name = search rules in
    let place : c.len-place.result ≡ length items.items = search rules in
    let pushed : c.push.new.self.items ≡ items.items ++ (c.args.name, c.args.shape) ∷ [] = search rules in
    places_more c.self.inside.places c.insert.new.self c.in_ok-key.key items.items c.push.new.self.items c.args.name c.args.shape c.len-place.result same place c.in_ok-insert.ensures.updates pushed c.self.invariant
