use Rattle.std.proofs.Common.{[]}
use Rattle.nf_value.specs.Plain.{null, list, plains_of}
use Rattle.nf_opstream.specs.Push.{push_of}
use Rattle.nf_opjoin.proofs.Promised.{passed}
use Rattle.nf_opjoin.proofs.tuples.emit.Goals as goal

pub returns : goal.returns
returns c = passed (λ t. t.items) (push_of 0 (list (plains_of c.args.items)) null) c.push.result (c.push.ensures [] tt)
