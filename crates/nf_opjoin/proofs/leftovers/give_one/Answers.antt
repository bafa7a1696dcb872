use Rattle.std.proofs.Common.{[]}
use Rattle.nf_value.specs.Plain.{null}
use Rattle.nf_value.specs.View.{plain_of}
use Rattle.nf_opstream.specs.Push.{push_of}
use Rattle.nf_opjoin.proofs.Promised.{passed}
use Rattle.nf_opjoin.proofs.leftovers.give_one.Goals as goal

pub returns : goal.returns
returns c = passed (λ t. t.items) (push_of 0 (plain_of c.args.value) null) c.push.result (c.push.ensures [] tt)
