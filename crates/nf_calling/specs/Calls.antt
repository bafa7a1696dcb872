-- The parts of a call, but for its arguments and the body of a workflow.
use Rattle.std.specs.Prelude.{ℕ, ◌++◌, ◌∷◌, [], not, List, length, count_by, Option}
use Rattle.nf_ast.specs.Tree.{Tree}
use Rattle.nf_graph.specs.declared.port.Port.{Port}
use Rattle.nf_value.specs.declared.place.Place.{Place}
use Rattle.nf_meaning.specs.declared.fault.LowerFault.{LowerFault}
use Rattle.nf_meaning.specs.Arguments.{Arg}
use Rattle.nf_meaning.specs.Calls.{again_fault, arity_fault, workflow_fault}
use Rattle.nf_meaning.specs.Lowered.{or_else}
use Rattle.nf_meaning.specs.Processes.{inputs_of}
use Rattle.nf_meaning.specs.Sizes.{counted}
use Rattle.nf_meaning.specs.Walk.{Scope, State, Walk, ◌>>=◌, begins_call, the_scope}
use Rattle.nf_arguments.specs.Args.{AreArgs}
use Rattle.nf_arguments.specs.declared.args.Args.{Args}
use Rattle.nf_plan.specs.Runs.{Run, bags_of}
use Rattle.nf_lowering.specs.declared.state.Lowering.{Lowering}
use Rattle.nf_lowering.specs.State.{StandsIn}

-- ---- before the arguments

-- what is wrong with the call of a process with these arguments
abbrev pub process_fault : Place → List ℕ → Tree → List Arg → Scope → Option LowerFault
process_fault p n t xs x = or_else (again_fault p n x) (arity_fault p (length xs) (length (inputs_of t)))

-- the same of a workflow
abbrev pub called_fault : Place → List ℕ → Tree → List Arg → Scope → Option LowerFault
called_fault p n t xs x = workflow_fault p n t (length xs) x

-- wherever the state in memory stands for one of the walk, this holds of its scope
abbrev pub InScope : Lowering → (Scope → Type 0) → Type 0
InScope z holds = (braces : List (List (List ℕ))) (x : Run) (s : State) → StandsIn braces x z s → holds s.scope

-- the same, with the arguments that these in memory stand for
abbrev pub WithArgs : Lowering → Args → (List Arg → Scope → Type 0) → Type 0
WithArgs z args holds =
    (braces : List (List (List ℕ))) (x : Run) (s : State) (ys : List Arg) → StandsIn braces x z s
    → AreArgs (bags_of x z.plan) args ys → holds ys s.scope

-- ---- a call begins

-- the call of a process begins, and its path is kept
abbrev pub begins_path : List ℕ → Walk (Unit {0})
begins_path n = the_scope >>= λ x. begins_call n ((x.path ++ n) ∷ [])

-- and it is counted, with the channels that it reads
abbrev pub begins_process : Place → List ℕ → ℕ → Walk (Unit {0})
begins_process p n ports = begins_path n >>= λ y. counted p ports

-- ---- the queues that a process reads

-- how many of these ports read queues
abbrev pub queues_in : List Port → ℕ
queues_in ports = count_by (λ p. not p.value) ports
