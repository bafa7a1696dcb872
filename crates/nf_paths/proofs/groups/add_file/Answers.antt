use Rattle.std.proofs.Common.{◌≡◌, ◌∙◌, ◌++◌, List, string_bytes, sym, ap, subst, rules}
use Rattle.std.specs.Prelude.{String, Some}
use Rattle.std.specs.Global.{Global}
use Rattle.std.specs.Option.{option_copied}
use Rattle.std.specs.Str.{chars, encode_utf8_all}
use Rattle.std.specs.Map.{lookup}
use Rattle.std.proofs.lemmas.Str.{encodes-chars}
use Rattle.nf_paths.specs.Pairs.{with_key}
use Rattle.nf_paths.specs.Groups.{IsGrouped}
use Rattle.nf_paths.specs.declared.groups.Members.{Members}
use Rattle.nf_paths.proofs.Grouping.{grouped, has_text}
use Rattle.nf_paths.proofs.groups.add_file.Goals as goal

pub returns : goal.returns
returns c = λ xs m.
    let key = c.args.key.now in
    let f = c.args.file.now in
    let old = c.args.groups.now.entries in
    let text : encode_utf8_all (chars key) ≡ key = encodes-chars key c.utf8.key in
    let stored : string_bytes c.in_ok-key.key ≡ key = search rules in
    let P : List (String Global × Members) → Type 0 = λ es. IsGrouped (xs ++ with_key f (Some (chars key))) es in
    subst P (sym c.in_ok-insert.ensures.entries)
    (grouped xs (encode_utf8_all (chars key)) c.in_ok-key.key f c.in_ok-members.members old (option_copied c.get.result) (stored ∙ sym text)
    (ap (λ q. lookup (has_text q) old) text ∙ sym c.get.ensures.value) c.in_ok-members.ensures m)
