-- How a fault is written.
use Rattle.std.specs.Prelude.{List, ◌++◌, ℕ, codes}
use Rattle.nf_value.specs.declared.place.Place.{Place}
use Rattle.nf_value.specs.Place.{place_text}
use Rattle.nf_lexer.specs.declared.fault.LexFault.{LexFault}
use Rattle.nf_lexer.specs.declared.fault.LexFault.TheVariants.{BadByte, OpenString, OpenComment, BadEscape, BigNumber, ScriptTooLong, Mem}

-- LINE:COL: NAME
abbrev pub placed : Place → List ℕ → List ℕ
placed place name = place_text place.line place.col ++ codes ": " ++ name

abbrev pub fault_text : LexFault → List ℕ
fault_text (BadByte place) = placed place (codes "BadByte")
fault_text (OpenString place) = placed place (codes "OpenString")
fault_text (OpenComment place) = placed place (codes "OpenComment")
fault_text (BadEscape place) = placed place (codes "BadEscape")
fault_text (BigNumber place) = placed place (codes "BigNumber")
fault_text ScriptTooLong = codes "1:1: ScriptTooLong"
fault_text Mem = codes "Mem"
