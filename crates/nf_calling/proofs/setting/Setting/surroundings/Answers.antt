use Rattle.nf_calling.proofs.Beginning.{reads_tops}
use Rattle.nf_calling.proofs.setting.Setting.surroundings.Goals as goal

pub returns-clause-walk : goal.returns-clause-walk
returns-clause-walk g c f h =
    reads_tops g.N.Natives.titles g.N.Natives.answer c.args.self.now c.args.library f h c.in_ok-before.before c.read_tops.result c.read_tops.ensures.walk (c.in_ok-before.ensures.stands f h)
