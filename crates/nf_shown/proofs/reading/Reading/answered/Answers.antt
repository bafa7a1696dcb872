use Rattle.std.proofs.Common.{◌≡◌, ◌<◌, length, get_or, true, false, refl, sym, ◌∙◌, arith}
use Rattle.nf_shown.proofs.Kept.{on_ok, reads_dropped, reads_kept, view_within}
use Rattle.nf_shown.proofs.reading.Reading.answered.Goals as goal

pub returns-then-is_view-clause-read : goal.returns-then-is_view-clause-read
returns-then-is_view-clause-read c =
    let view : get_or c.args.are_views.now c.taker-node.result false ≡ true = sym c.is_view.ensures ∙ c.if-is_view.true in
    let within : c.taker-node.result < length c.args.self.now.lists.items = (let l = view_within c.args.are_views.now c.taker-node.result view in omega (arith, l, c.requires)) in
    on_ok c.add.result
    (λ more. reads_kept c.args.are_views.now c.args.ticket c.args.value.now c.args.self.now (record { takers = c.args.self.now.takers; lists = c.add.new.lists }) c.taker-node.result c.taker-node.ensures view within refl more)
    c.add.ensures

pub returns-clause-read : goal.returns-clause-read
returns-clause-read c =
    reads_dropped c.args.are_views.now c.args.ticket c.args.value.now c.args.self.now c.taker-node.result c.taker-node.ensures (sym c.is_view.ensures ∙ c.if-is_view.false)
