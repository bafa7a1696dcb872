use Rattle.std.proofs.Common.{◌≡◌, ap, sym, ◌∙◌, subst}
use Rattle.std.specs.Prelude.{IfOk}
use Rattle.nf_value.specs.View.{plain_of}
use Rattle.nf_opstream.specs.Nested.{opened}
use Rattle.nf_opstream.specs.Promise.{emits_of}
use Rattle.nf_opstream.specs.Rows.{first_out}
use Rattle.nf_opstream.proofs.Inner.{items_of-plains_of}
use Rattle.nf_opstream.proofs.nested.opened.Goals as goal

pub returns-in-List : goal.returns-in-List
returns-in-List c =
    let same = c.into_items.ensures ∙ sym (items_of-plains_of c.in-List.list) ∙ ap (λ v. opened (plain_of v)) (sym c.in-List.is) in
    subst (λ vs. IfOk c.to_first.result (λ es. emits_of es.items ≡ first_out vs)) same c.to_first.ensures
