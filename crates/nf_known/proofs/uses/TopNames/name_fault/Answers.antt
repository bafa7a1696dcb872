use Rattle.std.proofs.Common.{◌∙◌, sym, subst}
use Rattle.nf_meaning.specs.Names.{is_no_value}
use Rattle.nf_callees.specs.Found.{defined_in}
use Rattle.nf_known.specs.Around.{IsBoundAs}
use Rattle.nf_known.specs.Reading.{reading_of}
use Rattle.nf_known.proofs.uses.TopNames.name_fault.Goals as goal

pub returns-in-Here : goal.returns-in-Here
returns-in-Here g c k knows =
    sym (subst (IsBoundAs (reading_of c.args.reading) c.args.place c.args.name.now k) c.in-Here.is (c.bound.ensures k knows)
    (is_no_value (defined_in c.args.self.now.definitions) (g.N.Natives.titles c.args.self.now.natives.now) c.args.name.now))

pub returns-in-Free : goal.returns-in-Free
returns-in-Free g c k knows =
    c.free_fault.ensures
    ∙ sym (subst (IsBoundAs (reading_of c.args.reading) c.args.place c.args.name.now k) c.in-Free.is (c.bound.ensures k knows)
    (is_no_value (defined_in c.args.self.now.definitions) (g.N.Natives.titles c.args.self.now.natives.now) c.args.name.now))
