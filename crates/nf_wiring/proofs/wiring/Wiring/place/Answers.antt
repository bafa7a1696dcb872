use Rattle.std.proofs.Common.{rules}
use Rattle.nf_wiring.proofs.Numbers.{read_place}
use Rattle.nf_wiring.proofs.wiring.Wiring.place.Goals as goal

pub returns : goal.returns
returns c nodes h = read_place nodes c.args.self.now c.args.number c.index.result.now h c.requires (search rules)
