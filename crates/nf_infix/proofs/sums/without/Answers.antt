use Rattle.std.proofs.Common.{◌≡◌, ◌∙◌, sym, ap, map, rules, Bool, filter}
use Rattle.std.proofs.lemmas.Fn.{filter_same}
use Rattle.nf_value.specs.View.{plain_of}
use Rattle.nf_value.specs.declared.value.Value.{Value}
use Rattle.nf_infix.specs.Sum.{is_missing}
use Rattle.nf_infix.proofs.Members.{filter-map}
use Rattle.nf_infix.proofs.sums.without.Goals as goal

pub returns : goal.returns
returns c =
    let others = c.items-others.result.now in
    let items = c.into_items-items.result.items in
    let test : Value → Bool = λ x. is_missing (map plain_of others) (plain_of x) in
    let kept : c.retain.new.self.items ≡ filter test items = filter_same _ test _ (λ x b g k. search rules) _ _ c.retain.ensures.filtered in
    c.of.ensures ∙ ap (map plain_of) kept ∙ sym (filter-map (is_missing (map plain_of others)) plain_of items) ∙ ap (filter (is_missing (map plain_of others))) c.into_items-items.ensures ∙ ap (λ ws. filter (is_missing ws) c.args.list) c.items-others.ensures
