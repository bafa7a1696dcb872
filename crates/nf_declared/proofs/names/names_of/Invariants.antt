use Rattle.nf_declared.proofs.Titles.{HasFirst}
use Rattle.nf_declared.proofs.names.names_of.Given as goal

abbrev pub invariant-loop-id : goal.invariant-loop-id
invariant-loop-id g l = HasFirst (g.N.Natives.titles l.natives) l.id l.names
