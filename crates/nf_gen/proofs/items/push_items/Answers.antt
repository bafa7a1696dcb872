use Rattle.std.proofs.Common.{List, ℕ, ◌≡◌, string_bytes, OnOk, subst}
use Rattle.nf_gen.proofs.Listing.{first_then}
use Rattle.nf_gen.proofs.items.push_items.Goals as goal

pub returns : goal.returns
returns c =
    let written = string_bytes c.push_more.new.out in
    subst (λ (t : List ℕ). OnOk c.push_more.result (written ≡ t))
    (first_then c.args.n c.args.start c.next-first.result (string_bytes c.args.out.now) (string_bytes c.push_item.new.out) c.if-n-eq0.false c.next-first.ensures c.in_ok-push_item.ensures)
    c.push_more.ensures
