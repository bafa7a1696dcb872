-- Facts of what a host tells and of what a call answers.
use Rattle.std.specs.Prelude.{Result, IfOk, IfSome}
use Rattle.std.specs.declared.option.Option.{Option}
use Rattle.nf_host.specs.Files.{Files}

-- a fact of the files and of the answer, if the files are told and there is an answer
abbrev pub OkOver : {T E : Type 0} → Option Files → Result T E → (Files → T → Type 0) → Type 0
OkOver told r P = IfSome told (λ f. IfOk r (P f))
