use Rattle.std.proofs.Common.{refl, rules}
use Rattle.nf_bag.specs.declared.rows.Row.TheVariants as row
use Rattle.nf_taken.proofs.Calling.{set_of}
use Rattle.nf_taken.proofs.calls.set_call.Goals as goal

pub returns : goal.returns
returns c = set_of c.args.place c.args.port _ refl refl (search rules) refl (λ n t h. c.answers.ensures.item n row.Set t h)
