use Rattle.std.proofs.Common.{◌≡◌, get_or, ap, sym, ◌∙◌, subst}
use Rattle.std.specs.Prelude.{IfOk}
use Rattle.nf_value.specs.Plain.{null}
use Rattle.nf_value.specs.View.{plain_of}
use Rattle.nf_opstream.specs.Columns.{at_place}
use Rattle.nf_opstream.proofs.Inner.{items_of-plains_of}
use Rattle.nf_opstream.proofs.columns.cell.Goals as goal

pub returns-in-List : goal.returns-in-List
returns-in-List c =
    let place = c.args.place in
    let same = ap (λ vs. get_or vs place null) (sym (items_of-plains_of c.in-List.list)) ∙ ap (λ v. at_place place (plain_of v)) (sym c.in-List.is) in
    subst (λ z. IfOk c.item_at.result (λ v. plain_of v ≡ z)) same c.item_at.ensures
