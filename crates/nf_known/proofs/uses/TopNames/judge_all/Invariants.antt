use Rattle.nf_callees.specs.Found.{defined_in}
use Rattle.nf_known.specs.Judged.{StayJudged}
use Rattle.nf_known.proofs.Rounds.{Goes}
use Rattle.nf_known.proofs.uses.TopNames.judge_all.Given as goal

abbrev pub invariant-loop-at : goal.invariant-loop-at
invariant-loop-at g l =
    StayJudged g.N.Natives.titles l.self l.initial.judged.entries l.judged.entries
    × Goes (defined_in l.self.definitions) l.functions.entries l.at l.more l.initial.judged.entries l.judged.entries
