use Rattle.std.proofs.Common.{◌≡◌, string_bytes, rules}
use Rattle.nf_library.proofs.Sets.{has_one_more}
use Rattle.nf_library.proofs.texts.add_key.Goals as goal

pub returns : goal.returns
returns c =
    let same : string_bytes c.in_ok-from_str.field-0 ≡ c.args.text.now = search rules in
    has_one_more c.args.set.now c.insert.new.self c.in_ok-from_str.field-0 c.args.text.now same c.in_ok-insert.ensures.updates
