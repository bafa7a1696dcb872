-- How many channels an operator takes of its arguments.
use Rattle.std.specs.Prelude.{◌≡◌, ◌+◌, ℕ, length, IfOk, Result}
use Rattle.nf_optable.specs.declared.rows.OpRow.{OpRow}
use Rattle.nf_arguments.specs.declared.args.Args.{Args}
use Rattle.nf_arguments.specs.Args.{written_args}
use Rattle.nf_meaning.specs.declared.fault.LowerFault.{LowerFault}
use Rattle.nf_meaning.specs.Arguments.{unnamed}
use Rattle.nf_meaning.specs.Taken.{args_ports}
use Rattle.nf_applied.specs.DeclaredTaken.{Taken}

-- so many more as this many arguments without a name give
abbrev pub MorePorts : OpRow → ℕ → Taken → Result Taken LowerFault → Type 0
MorePorts k n old r = IfOk r (λ x. length x.ports.items ≡ length old.ports.items + args_ports k.args n)

-- as many as these arguments give
abbrev pub TakesPorts : OpRow → Args → Result Taken LowerFault → Type 0
TakesPorts k args r = IfOk r (λ x. length x.ports.items ≡ args_ports k.args (unnamed (written_args args)))
