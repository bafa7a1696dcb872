-- How a fault of a script is written, and where it stands.
use Rattle.std.specs.Prelude.{ℕ, List, ◌++◌, codes, Option, Some, None}
use Rattle.nf_value.specs.declared.place.Place.{Place}
use Rattle.nf_value.specs.Fault.{kind_text}
use Rattle.nf_meaning.specs.declared.fault.LowerFault.{LowerFault}
use Rattle.nf_meaning.specs.declared.fault.LowerFault.TheVariants.{UnknownName, TwiceDefined, CallCycle, WrongArity, BadOption, NoEntry, ParamFault, PatternRefused, PatternTooLarge, TooManyNodes}
use Rattle.nf_meaning.specs.declared.fault.LowerFault.TheVariants as fault

abbrev pub fault_text : LowerFault → List ℕ
fault_text (UnknownName p) = codes "UnknownName"
fault_text (TwiceDefined p) = codes "TwiceDefined"
fault_text (CallCycle p) = codes "CallCycle"
fault_text (WrongArity p) = codes "WrongArity"
fault_text (BadOption p) = codes "BadOption"
fault_text (NoEntry p) = codes "NoEntry"
fault_text (ParamFault f) = codes "ParamFault " ++ kind_text f.kind
fault_text (PatternRefused p) = codes "PatternRefused"
fault_text (PatternTooLarge p) = codes "PatternTooLarge"
fault_text (TooManyNodes p) = codes "TooManyNodes"
fault_text fault.Mem = codes "Mem"

-- want of memory has no place
abbrev pub place_in : LowerFault → Option Place
place_in (UnknownName p) = Some p
place_in (TwiceDefined p) = Some p
place_in (CallCycle p) = Some p
place_in (WrongArity p) = Some p
place_in (BadOption p) = Some p
place_in (NoEntry p) = Some p
place_in (ParamFault f) = Some f.place
place_in (PatternRefused p) = Some p
place_in (PatternTooLarge p) = Some p
place_in (TooManyNodes p) = Some p
place_in fault.Mem = None
