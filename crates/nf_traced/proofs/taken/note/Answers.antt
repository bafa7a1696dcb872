use Rattle.std.proofs.Common.{ap, sym, ◌∙◌, ◌-◌, set, arith}
use Rattle.nf_traced.proofs.Numbered.{noted_later, noted_past, set_noted}
use Rattle.nf_traced.proofs.taken.note.Goals as goal

pub returns-then-ticket-eq0 : goal.returns-then-ticket-eq0
returns-then-ticket-eq0 c n = sym (noted_later c.args.ticket c.args.again c.args.status 1 c.args.takes.now.items n (omega (arith, c.if-ticket-eq0.true)))

pub returns-then-place-len : goal.returns-then-place-len
returns-then-place-len c n =
    ap (set c.args.takes.now.items (c.args.ticket - 1)) c.moved.ensures
    ∙ set_noted c.args.ticket c.args.again c.args.status 1 c.args.takes.now.items (c.args.ticket - 1) c.index-take.result.now n (omega (arith, c.if-ticket-eq0.false))
    (omega (arith, c.if-place-len.true, c.len.ensures)) c.index-take.ensures

pub returns-else-place-len : goal.returns-else-place-len
returns-else-place-len c n =
    sym (noted_past c.args.ticket c.args.again c.args.status 1 c.args.takes.now.items n (omega (arith, c.if-place-len.false, c.len.ensures, c.if-ticket-eq0.false)))
