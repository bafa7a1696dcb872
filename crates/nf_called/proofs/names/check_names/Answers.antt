use Rattle.std.proofs.Common.{ap}
use Rattle.nf_ast.specs.Tops.{maybe, view_inputs}
use Rattle.nf_meaning.specs.Lowered.{unless}
use Rattle.nf_meaning.specs.Processes.{twice_named}
use Rattle.nf_called.proofs.Steps.{nothing}
use Rattle.nf_called.proofs.names.check_names.Goals as goal

pub returns-in-None : goal.returns-in-None
returns-in-None c = record { value = tt; is = ap (λ o. unless (twice_named (maybe view_inputs o)) nothing) c.in-None.is; fits = tt }
