use Rattle.std.proofs.Common.{arith, rules}
use Rattle.nf_steps.proofs.Making.{add_made}
use Rattle.nf_steps.proofs.maker.GraphMaker.add.Goals as goal

pub invariant_of-self-2 : goal.invariant_of-self-2
invariant_of-self-2 c =
    let m = c.self.inside in
    add_made m.nodes.items c.push.new.self.items c.deref.result.now c.items-ports.result.now c.args.node m.ports c.self.invariant c.in_ok-push.ensures.items c.deref.ensures.value c.items-ports.ensures
    (let a = c.has_room.ensures.nodes (search rules) in let b = c.len.ensures in omega (arith, a, b)) (let a = c.has_room.ensures.ports (search rules) in omega (arith, a))
    (c.fits_kind.ensures (search rules)) (c.read_earlier.ensures (search rules))
