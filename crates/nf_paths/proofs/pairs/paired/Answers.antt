use Rattle.std.proofs.Common.{◌≡◌, ◌∷◌, map, Bor, rules}
use Rattle.std.specs.Prelude.{String}
use Rattle.std.specs.Global.{Global}
use Rattle.std.specs.Map.Iter.{deref_pair}
use Rattle.std.proofs.lemmas.Map.Iter.{rest_more}
use Rattle.nf_value.specs.View.{plain_of}
use Rattle.nf_paths.specs.Groups.{pairs_in}
use Rattle.nf_paths.specs.declared.groups.Members.{Members}
use Rattle.nf_paths.proofs.Pairing.{paired_on}
use Rattle.nf_paths.proofs.pairs.paired.Goals as goal

pub loop-key-preserved : goal.loop-key-preserved
loop-key-preserved c =
    let x : Bor (String Global) × Bor Members = (c.in-Some.key, c.in-Some.members) in
    let left : c.loop-key.key-iterator ≡ deref_pair x ∷ c.next.new.self = rest_more deref_pair c.loop-key.key-iterator c.next.new.self c.next.result x c.in-Some.is c.next.ensures.steps in
    paired_on (map plain_of c.loop-key.pairs.items) (map plain_of c.put_pair.new.pairs.items) (deref_pair x) c.loop-key.key-iterator c.next.new.self c.as_str.result.now (pairs_in c.args.groups.now.entries)
    (search rules) (search rules) left c.loop-key.invariant
