use Rattle.std.proofs.Common.{map}
use Rattle.nf_value.specs.View.{pair_of}
use Rattle.nf_placed.proofs.Naming.{named_each, named_spread, binds}
use Rattle.nf_placed.proofs.params.named.Goals as goal

pub returns-then-names-args : goal.returns-then-names-args
returns-then-names-args c = named_each c.args.place c.args.names.now c.args.args.now (map pair_of c.in_ok-paired.field-0.items) c.if-names-args.true c.in_ok-paired.ensures

pub returns : goal.returns
returns c = binds _ _ c.spread.result (named_spread c.args.place c.args.names.now c.args.args.now c.if-names-args.false) c.spread.ensures
