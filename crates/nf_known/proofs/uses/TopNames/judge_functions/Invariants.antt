use Rattle.nf_meaning.specs.Given.{Given}
use Rattle.nf_callees.specs.Found.{defined_in}
use Rattle.nf_known.specs.Script.{HasProgram}
use Rattle.nf_known.specs.Judged.{AreJudged, left_count, nowhere}
use Rattle.nf_known.proofs.uses.TopNames.judge_functions.Given as goal

abbrev pub invariant-loop-at : goal.invariant-loop-at
invariant-loop-at g l = (given : Given) → HasProgram g.N.Natives.titles l.self given → AreJudged given (defined_in l.self.definitions) l.judged.entries

abbrev pub invariant-rounds : goal.invariant-rounds
invariant-rounds g l = (given : Given) → HasProgram g.N.Natives.titles l.self given → AreJudged given (defined_in l.self.definitions) l.judged.entries

abbrev pub decreases-rounds : goal.decreases-rounds
decreases-rounds g l = left_count (defined_in l.self.definitions) l.judged.entries nowhere
