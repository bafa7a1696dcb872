use Rattle.nf_known.specs.Reading.{reading_of}
use Rattle.nf_known.proofs.Whole.{whole_name}
use Rattle.nf_known.proofs.names.KnownScript.name_fault.Goals as goal

pub returns : goal.returns
returns g c q asked =
    whole_name g.N.Natives.titles c.args.self.now c.args.around.now q asked (reading_of c.args.reading) c.args.place c.args.name.now c.name_fault.result (c.name_fault.ensures q.known asked.names)
