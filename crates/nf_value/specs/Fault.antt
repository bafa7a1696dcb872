-- How the kind of a fault is written.
use Rattle.std.specs.Prelude.{ℕ, List, codes}
use Rattle.nf_value.specs.declared.fault.EvalKind.{EvalKind}
use Rattle.nf_value.specs.declared.fault.EvalKind.TheVariants.{Overflow, WrongKind, NoProperty, DivZero, TooLarge, TooDeep, NoMethod, Arity, NotNumber, Native}

abbrev pub kind_text : EvalKind → List ℕ
kind_text Overflow = codes "Overflow"
kind_text WrongKind = codes "WrongKind"
kind_text NoProperty = codes "NoProperty"
kind_text DivZero = codes "DivZero"
kind_text TooLarge = codes "TooLarge"
kind_text TooDeep = codes "TooDeep"
kind_text NoMethod = codes "NoMethod"
kind_text Arity = codes "Arity"
kind_text NotNumber = codes "NotNumber"
kind_text Native = codes "Native"
