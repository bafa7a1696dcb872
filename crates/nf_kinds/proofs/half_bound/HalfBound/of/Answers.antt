use Rattle.std.proofs.Common.{◌≡◌, ◌∙◌, string_bytes, ap, rules}
use Rattle.std.proofs.lemmas.List.{take_all}
use Rattle.nf_kinds.specs.Scope.{is_named}
use Rattle.nf_kinds.proofs.NamesLeft.{has_more, all_left}
use Rattle.nf_kinds.proofs.half_bound.HalfBound.of.Goals as goal

pub loop-name-preserved : goal.loop-name-preserved
loop-name-preserved c =
    let names = c.deref-name-items.result.now in
    let name = c.name-item.result in
    let key = c.in_ok-from_str.field-0 in
    let same : string_bytes key ≡ name = search rules in
    has_more c.loop-name.left c.insert.new.self key names c.loop-name.name-index name name c.loop-name-test.true same c.name-item.is c.in_ok-insert.ensures.updates c.loop-name.invariant

pub returns : goal.returns
returns c =
    let names = c.deref-name-items.result.now in
    all_left c.loop-name.left c.args.names.items
    (λ n k. c.loop-name.invariant n ∙ ap (is_named n) (take_all c.loop-name.name-index names c.loop-name-test.false ∙ c.deref-name-items.ensures.value) ∙ k)
