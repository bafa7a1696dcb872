use Rattle.nf_locked.proofs.Frees.{free_new}
use Rattle.nf_locked.proofs.locked.Locked.new.Goals as goal

pub invariant_of-result : goal.invariant_of-result
invariant_of-result g c = free_new g.J.Fixed.facts c.args.run _ c.args.begun.total c.args.failed.total c.requires.idle c.requires.starts c.requires.failures c.requires.lanes c.requires.out c.requires.begun c.requires.failed
