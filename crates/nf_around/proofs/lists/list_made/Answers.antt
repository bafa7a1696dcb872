use Rattle.std.proofs.Common.{◌∙◌, map, refl, sym, ap}
use Rattle.nf_value.specs.Plain.{list, plains_of}
use Rattle.nf_value.specs.View.{plain_of}
use Rattle.nf_meaning.specs.Things.{a_value, widened}
use Rattle.nf_infix.specs.Literal.{new_list}
use Rattle.nf_placed.specs.Placed.{made}
use Rattle.nf_around.proofs.Wide.{list_right, list_wrong}
use Rattle.nf_around.proofs.lists.list_made.Goals as goal

pub returns-in-Ok : goal.returns-in-Ok
returns-in-Ok c a s =
    let vs = map plain_of c.args.items.items in
    let ws = map plain_of c.in_ok-wide.wide.items in
    record {
      value = (a_value (list (plains_of vs)), s);
      is = list_right c.args.place vs ws (c.in_ok-wide.ensures ∙ ap (map widened) c.of-list.ensures) a s (plain_of c.in-Ok.field-0) c.in-Ok.ensures;
      fits = (ap (λ xs. a_value (list (plains_of xs))) (sym c.of-list.ensures), refl);
    }

pub returns-in-Err : goal.returns-in-Err
returns-in-Err c a s =
    let vs = map plain_of c.args.items.items in
    let ws = map plain_of c.in_ok-wide.wide.items in
    list_wrong c.args.place vs ws (c.in_ok-wide.ensures ∙ ap (map widened) c.of-list.ensures) a s c.fault_before_run.result
    (c.fault_before_run.ensures (made c.args.place (new_list ws)) c.in-Err.ensures)
