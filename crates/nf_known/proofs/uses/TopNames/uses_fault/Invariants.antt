use Rattle.std.proofs.Common.{◌≡◌, drop}
use Rattle.nf_meaning.specs.Given.{Given}
use Rattle.nf_meaning.specs.Names.{Known, uses_fault}
use Rattle.nf_callees.specs.Found.{defined_in}
use Rattle.nf_known.specs.Around.{Knows}
use Rattle.nf_known.specs.Reading.{reading_of}
use Rattle.nf_known.specs.Script.{HasProgram}
use Rattle.nf_known.proofs.uses.TopNames.uses_fault.Given as goal

abbrev pub invariant-loop-one : goal.invariant-loop-one
invariant-loop-one g l =
    (given : Given) (k : Known) → HasProgram g.N.Natives.titles l.self given → Knows l.around k
    → uses_fault given (defined_in l.self.definitions) k (reading_of l.reading) l.uses ≡ uses_fault given (defined_in l.self.definitions) k (reading_of l.reading) (drop l.one-index l.uses)
