use Rattle.std.proofs.Common.{subst}
use Rattle.nf_eval.specs.Memory.{env_of}
use Rattle.nf_meaning.specs.Closures.{env_for}
use Rattle.nf_relevant.specs.Reads.{AreAlike}
use Rattle.nf_known.specs.Reading.{reading_of}
use Rattle.nf_around.proofs.Made.{gives_as}
use Rattle.nf_around.proofs.view.View.closure.Goals as goal

pub returns : goal.returns
returns c n a s h =
    let one = env_of c.in_ok-env.env n.titles n.answer in
    let other = env_for (reading_of c.args.self.now.reading) a s in
    gives_as c.closures_by_their_names.ensures.applied n c.new.result c.args.code.now c.in_ok-copy.field-0 c.in_ok-names.names.items one other (c.new.ensures n.titles n.answer) c.in_ok-copy.ensures
    c.in_ok-names.ensures.reads (subst (λ ns. AreAlike ns one other) c.deref.ensures.value (c.in_ok-env.ensures n a s h))
