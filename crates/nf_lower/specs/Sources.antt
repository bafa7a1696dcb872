-- How many arguments sources take.
use Rattle.std.specs.Prelude.{◌≡◌, List, true, length, IfOk, Result}
use Rattle.std.specs.Global.{Vec}
use Rattle.nf_value.specs.Plain.{Plain}
use Rattle.nf_meaning.specs.declared.fault.LowerFault.{LowerFault}
use Rattle.nf_meaning.specs.Arguments.{Arg, unnamed}
use Rattle.nf_meaning.specs.Sources as meaning
use Rattle.nf_meaning.specs.Walk.{Walk, ◌>>=◌}
use Rattle.nf_opargs.specs.Sources.{source_of}
use Rattle.nf_opargs.specs.declared.sources.Source.{Source}
use Rattle.nf_arguments.specs.declared.args.Args.{Args}
use Rattle.nf_arguments.specs.Args.{written_args}

-- the source takes so many arguments without a name
abbrev pub TakesSoMany : Source → Args → Type 0
TakesSoMany x args = meaning.takes (source_of x) (unnamed (written_args args)) ≡ true

-- as many as there are arguments without a name
abbrev pub HasAsMany : {A : Type 0} → Args → Result (Vec A) LowerFault → Type 0
HasAsMany args r = IfOk r (λ vs. length vs.items ≡ unnamed (written_args args))

-- the items of the list that is the only argument
abbrev pub list_walk : List Arg → Walk (List Plain)
list_walk xs = meaning.only_values xs >>= meaning.list_items
