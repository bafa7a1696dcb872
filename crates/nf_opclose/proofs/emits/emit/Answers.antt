use Rattle.std.proofs.Common.{[]}
use Rattle.nf_value.specs.Plain.{null}
use Rattle.nf_value.specs.View.{plain_of}
use Rattle.nf_opstream.specs.Push.{push_of}
use Rattle.nf_opclose.proofs.Promised.{passed}
use Rattle.nf_opclose.proofs.emits.emit.Goals as goal

pub returns : goal.returns
returns c = passed (λ v. v.items) (push_of 0 (plain_of c.args.value) null) c.push.result (c.push.ensures [] tt)
