use Rattle.std.proofs.Common.{arith, ◌∙◌}
use Rattle.nf_nodes.proofs.Readying.{no_port, pass_told}
use Rattle.nf_nodes.proofs.nodes.Nodes.may_pass.Goals as goal

pub returns-then-number-count : goal.returns-then-number-count
returns-then-number-count c s h =
    no_port c.args.nodes.now s c.args.number c.count-count.result (c.count-count.ensures ∙ c.numbers.ensures.count c.args.nodes.now c.args.self.now.wiring h.shows.wiring) c.if-number-count.true

pub contains-requires : goal.contains-requires
contains-requires c =
    let shows = c.requires.shows in let e = c.numbers.ensures.count c.args.nodes.now c.args.self.now.wiring shows.wiring in let f = c.count-count.ensures in let t = c.if-number-count.false in let z = shows.sized.passable in
    omega (arith, e, f, t, z)

pub returns : goal.returns
returns c s h =
    let ns = c.args.nodes.now in
    let e = c.numbers.ensures.count ns c.args.self.now.wiring h.shows.wiring in let f = c.count-count.ensures in let t = c.if-number-count.false in
    pass_told ns s c.args.self.now h (c.numbers.ensures.within ns) (c.numbers.ensures.each ns) c.args.number c.contains.result (omega (arith, e, f, t)) c.contains.ensures
