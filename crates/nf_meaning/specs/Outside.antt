-- What the faults of a script's text don't depend on: the files that are found, and the outcomes of tasks.
use Rattle.std.specs.Prelude.{List, Option, Some, None, Ok, Err}
use Rattle.nf_meaning.specs.declared.fault.LowerFault.{LowerFault}
use Rattle.nf_meaning.specs.Lowered.{Lowered}
use Rattle.nf_meaning.specs.Given.{Given, Found, Outcomes}

-- the same script in another run
abbrev pub in_run : Given → List Found → Outcomes → Given
in_run g found outcomes = record g { found = found; outcomes = outcomes }

-- why a part has no meaning, if it has none
abbrev pub fault_of : {A : Type 0} → Lowered A → Option LowerFault
fault_of (Ok x) = None
fault_of (Err f) = Some f
