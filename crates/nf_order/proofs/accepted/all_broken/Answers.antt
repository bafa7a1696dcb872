use Rattle.std.proofs.Common.{◌≡◌, None, ap, ◌∙◌, rules}
use Rattle.nf_order.proofs.Entering.{from_no_entry, from_one_entry}
use Rattle.nf_order.proofs.accepted.all_broken.Goals as goal
use Rattle.nf_order.proofs.accepted.all_broken.Goals.{in-Some+in_ok-from_entry, in_default}

pub returns : goal.returns
returns c =
    elim c.match-entry.branch [
      | in-Some+in_ok-from_entry w ↦
          from_one_entry c.args.tops.now c.entry.result w.in-Some.body c.in_ok-broken.broken.items c.match-entry.broken.items
          w.in-Some.is c.entry.ensures c.in_ok-broken.ensures (ap (λ v. v.items) w.broken-is ∙ w.in_ok-from_entry.ensures)
      | in_default w ↦
          let none : c.entry.result ≡ None = search rules in
          from_no_entry c.args.tops.now c.entry.result c.in_ok-broken.broken.items c.match-entry.broken.items
          none c.entry.ensures c.in_ok-broken.ensures (ap (λ v. v.items) w.broken-is)
    ]
