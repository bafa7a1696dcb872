use Rattle.std.proofs.Common.{◌≡◌, map}
use Rattle.std.specs.Prelude.{Ok}
use Rattle.nf_value.specs.View.{plain_of}
use Rattle.nf_opstream.specs.Promise.{emits_of}
use Rattle.nf_opjoin.specs.Pairing.{and_then}
use Rattle.nf_opjoin.specs.Pairing.{given}
use Rattle.nf_opjoin.proofs.leftovers.give.Given as goal

abbrev pub invariant-loop-value : goal.invariant-loop-value
invariant-loop-value l = and_then (Ok (emits_of l.emits.items)) (given (map plain_of l.value-iterator.rest.items)) ≡ given l.fn.values
