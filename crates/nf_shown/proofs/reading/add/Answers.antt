use Rattle.std.proofs.Common.{◌≡◌, List, get_or, sym, subst}
use Rattle.nf_value.specs.Plain.{Plain}
use Rattle.nf_value.specs.View.{plain_of}
use Rattle.nf_shown.proofs.Lists.{with_pushed}
use Rattle.nf_shown.proofs.reading.add.Goals as goal

pub returns : goal.returns
returns c =
    let items = c.args.lists.now.items in
    with_pushed items c.args.place c.replace-list.new.dest c.replace-list.result c.in_ok-lists.field-0 (plain_of c.args.value.now) c.requires
    (subst (λ (p : List Plain). p ≡ get_or items c.args.place p) (sym c.replace-list.ensures.value) c.index_mut.ensures.value) c.in_ok-lists.ensures
