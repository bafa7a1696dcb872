use Rattle.nf_follows.proofs.Growth.{thing_reads, thing_stands}
use Rattle.nf_follows.proofs.laws.things_last.Goals as goal

pub returns-clause-reads : goal.returns-clause-reads
returns-clause-reads c old new e t r = thing_reads old new e t r

pub returns-clause-stands : goal.returns-clause-stands
returns-clause-stands c x old new e t y r h = thing_stands c.added_later.ensures x old new e t y r h
