-- Calls by name in a workflow's body: of processes, workflows, operators and `file`.
use Rattle.std.specs.Prelude.{ℕ, ◌^◌, ◌==◌, Bool, false, not, nat_le, List, [], ◌∷◌, ◌++◌, length, if◌then◌else◌, Option, Some, None}
use Rattle.nf_value.specs.declared.place.Place.{Place}
use Rattle.nf_names_used.specs.Natives.{is_among}
use Rattle.nf_ast.specs.Tree as tree
use Rattle.nf_ast.specs.Tree.{Tree, cons}
use Rattle.nf_optable.specs.declared.rows.OpRow.{OpRow}
use Rattle.nf_meaning.specs.declared.fault.LowerFault.{LowerFault}
use Rattle.nf_meaning.specs.declared.fault.LowerFault.TheVariants.{UnknownName, TwiceDefined, CallCycle, WrongArity, BadOption, TooManyNodes}
use Rattle.nf_meaning.specs.Lowered.{or_else, fault_if}
use Rattle.nf_meaning.specs.Things.{Thing, outputs, Channel, Output, are_values}
use Rattle.nf_meaning.specs.Names.{Called, a_process, a_workflow, a_function, a_file, an_operator, unknown, called_by}
use Rattle.nf_meaning.specs.Walk.{Walk, Around, Scope, ◌>>=◌, gives, refused, lifted, unless_fault, means, with_scope, the_scope, begins_call, calling}
use Rattle.nf_meaning.specs.Sizes.{counted}
use Rattle.nf_meaning.specs.Arguments.{Arg, unnamed, channel_args}
use Rattle.nf_meaning.specs.Sources.{file_call}
use Rattle.nf_meaning.specs.Operators.{operator_call, on_argument}
use Rattle.nf_meaning.specs.Tasks.{CalledProcess, TaskCall, task_meaning, outputs_of}
use Rattle.nf_meaning.specs.Processes.{inputs_of, called_process}

-- a process or a workflow is called once in a body, also where the second call stands in an argument of the first
abbrev pub again_fault : Place → List ℕ → Scope → Option LowerFault
again_fault p n x = fault_if (is_among n x.called) (TwiceDefined p)

abbrev pub arity_fault : Place → ℕ → ℕ → Option LowerFault
arity_fault p k n = if k == n then None else Some (WrongArity p)

-- what a call gives is known in the rest of the body by its name
abbrev pub called_here : List ℕ → List Output → Walk Thing
called_here n os = with_scope (calling n os) >>= λ _. gives (outputs os)

-- ---- processes

abbrev pub task_call : Around → List ℕ → CalledProcess → List Channel → TaskCall
task_call a path c cs = record { path = path; called = c; channels = cs; outcomes = a.given.outcomes }

abbrev pub tasks_mean : List ℕ → TaskCall → Walk Thing
tasks_mean n c = means (task_meaning c) >>= λ _. called_here n (outputs_of c)

abbrev pub has_two_queues : List Channel → Bool
has_two_queues [] = false
has_two_queues (c ∷ cs) = if c.is_value then has_two_queues cs else not (are_values cs)

-- what the call of no accepted script has: two queues, which the order rules refuse, or outputs that 32 bits can't
-- number, for which no script is long enough
abbrev pub call_fault : Place → CalledProcess → List Channel → Option LowerFault
call_fault p c cs =
    or_else (fault_if (has_two_queues cs) (BadOption p))
    (fault_if (nat_le (2 ^ 32) (length c.labels)) (TooManyNodes p))

abbrev pub process_at : Place → List ℕ → Tree → List ℕ → List Channel → Walk Thing
process_at p n t path cs a s =
    (lifted (called_process a path t) >>= λ c. unless_fault (call_fault p c cs) >>= λ _.
    tasks_mean n (task_call a path c cs)) a s

-- first its name, then its arguments, then its definition
abbrev pub process_call : Place → List ℕ → Tree → List Arg → Walk Thing
process_call p n t xs =
    the_scope >>= λ x.
    unless_fault (or_else (again_fault p n x) (arity_fault p (length xs) (length (inputs_of t)))) >>= λ _.
    begins_call n ((x.path ++ n) ∷ []) >>= λ _. counted p (length xs) >>= λ _.
    channel_args xs >>= process_at p n t (x.path ++ n)

-- ---- workflows

-- the names that a workflow takes
abbrev pub names_taken : Tree → List Tree
names_taken (tree.section p xs) = names_taken xs
names_taken (cons n more) = n ∷ names_taken more
names_taken _ = []

abbrev pub take_of : Tree → List Tree
take_of (tree.workflow p n (tree.parts take main emit)) = names_taken take
take_of _ = []

abbrev pub cycle_fault : Place → List ℕ → Scope → Option LowerFault
cycle_fault p n x = fault_if (is_among n x.within) (CallCycle p)

abbrev pub workflow_fault : Place → List ℕ → Tree → ℕ → Scope → Option LowerFault
workflow_fault p n t k x =
    or_else (again_fault p n x) (or_else (cycle_fault p n x) (arity_fault p k (length (take_of t))))

abbrev pub entered : Place → List ℕ → Tree → List Channel → Walk (List Output)
entered p n t cs a s = a.enter p n t cs s

abbrev pub workflow_call : Place → List ℕ → Tree → List Arg → Walk Thing
workflow_call p n t xs =
    the_scope >>= λ x. unless_fault (workflow_fault p n t (length xs) x) >>= λ _. begins_call n [] >>= λ _.
    channel_args xs >>= entered p n t >>= called_here n

-- ---- operators, as `view(ch)`: the first argument without a name is what it is called on

pub record Receiver : Type 0 where
  pub of : Arg
  pub others : List Arg

abbrev pub and_other : Arg → Option Receiver → Option Receiver
and_other x (Some r) = Some (record r { others = x ∷ r.others })
and_other x None = None

abbrev pub receiver_or : Option (Place × List ℕ) → Arg → List Arg → Option Receiver → Option Receiver
receiver_or None x xs later = Some (record { of = x; others = xs })
receiver_or (Some n) x xs later = and_other x later

abbrev pub receiver : List Arg → Option Receiver
receiver [] = None
receiver (x ∷ xs) = receiver_or x.label x xs (receiver xs)

abbrev pub operator_for : Place → OpRow → Option Receiver → Walk Thing
operator_for p k (Some x) = operator_call p k (unnamed x.others) (λ r. on_argument p k r x.of x.others)
operator_for p k None = refused (WrongArity p)

abbrev pub operator_on : Place → OpRow → List Arg → Walk Thing
operator_on p k xs = operator_for p k (receiver xs)

-- ---- all calls by name

abbrev pub call_of : Called → Place → List ℕ → List Arg → Walk Thing
call_of (a_process t) p n xs = process_call p n t xs
call_of (a_workflow t) p n xs = workflow_call p n t xs
call_of (an_operator k) p n xs = operator_on p k xs
call_of a_file p n xs = file_call p xs
call_of a_function p n xs = refused (BadOption p)
call_of unknown p n xs = refused (UnknownName p)

abbrev pub named_call : Place → List ℕ → List Arg → Walk Thing
named_call p n xs a s = call_of (called_by a.definitions a.given.program.titles n) p n xs a s
