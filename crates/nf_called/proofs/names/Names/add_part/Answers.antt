use Rattle.std.proofs.Common.{ap}
use Rattle.nf_ast.specs.Tops.{view_input_part}
use Rattle.nf_called.specs.Names.{names_named}
use Rattle.nf_called.proofs.names.Names.add_part.Goals as goal

pub returns-in-Stdin : goal.returns-in-Stdin
returns-in-Stdin c = λ before knows. record { value = before; is = ap (λ x. names_named (view_input_part x) before) c.in-Stdin.is; fits = knows }
