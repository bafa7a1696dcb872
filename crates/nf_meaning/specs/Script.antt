-- The meaning of a script: its definitions at the top, the workflows that are called, and the entry.
use Rattle.std.specs.Prelude.{ℕ, zero, suc, Bool, true, false, List, [], ◌∷◌, ◌++◌, map, length, codes, if◌then◌else◌, Option, Some, None, Ok, Err}
use Rattle.nf_value.specs.Plain.{Plain, text, table, plain_pairs_of}
use Rattle.nf_value.specs.declared.place.Place.{Place}
use Rattle.nf_names_used.specs.Natives.{is_among}
use Rattle.nf_ast.specs.Tree as tree
use Rattle.nf_ast.specs.Tree.{Tree, empty, cons, place_of}
use Rattle.nf_names_used.specs.Body.{name_in, names_in}
use Rattle.nf_tasks.specs.Evaluation.{functions_of}
use Rattle.nf_pairs.specs.Pairs.{put}
use Rattle.nf_meaning.specs.declared.fault.LowerFault.{LowerFault}
use Rattle.nf_meaning.specs.declared.fault.LowerFault.TheVariants.{TwiceDefined, CallCycle, BadOption, NoEntry}
use Rattle.nf_meaning.specs.Lowered.{Lowered, goes_on, or_else, fault_if}
use Rattle.nf_meaning.specs.Places.{begins_at, first_place}
use Rattle.nf_meaning.specs.Things.{Thing, a_channel, Channel, Output}
use Rattle.nf_meaning.specs.Given.{Given, Definitions}
use Rattle.nf_meaning.specs.Meaning.{ScriptMeaning, nothing_meant}
use Rattle.nf_meaning.specs.Functions.{in_order}
use Rattle.nf_meaning.specs.Walk.{Walk, Step, Around, Scope, State, Want, ◌>>=◌, gives, refused, unless_fault}
use Rattle.nf_meaning.specs.Expressions.{value_of, only_read, channel_wanted, not_tied_to_file}
use Rattle.nf_meaning.specs.Calls.{names_taken}
use Rattle.nf_meaning.specs.Workflow.{part_of, logged}

-- ---- workflows

-- the name of what is emitted: that before `=`, or that of an expression which is just a name
abbrev pub emit_label : Tree → Option Tree
emit_label (tree.assign n e) = Some n
emit_label (tree.name p n) = Some (tree.name p n)
emit_label _ = None

abbrev pub emit_value : Tree → Tree
emit_value (tree.assign n e) = e
emit_value e = e

abbrev pub label_fault : List (List ℕ) → Option Tree → Option LowerFault
label_fault before (Some n) = fault_if (is_among (name_in n) before) (TwiceDefined (place_of n))
label_fault before None = None

abbrev pub label_of : Option Tree → Option (List ℕ)
label_of (Some n) = Some (name_in n)
label_of None = None

abbrev pub and_label : Option Tree → List (List ℕ) → List (List ℕ)
and_label (Some n) before = name_in n ∷ before
and_label None before = before

-- a value that holds a file is not emitted
abbrev pub emitted : Place → Thing → Walk Channel
emitted q t = not_tied_to_file q t >>= λ _. channel_wanted q t

abbrev pub emits_of : List (List ℕ) → Tree → Walk (List Output)
emits_of before (tree.section p xs) = emits_of before xs
emits_of before (cons x more) =
    unless_fault (label_fault before (emit_label x)) >>= λ _.
    (part_of (emit_value x)).thing >>= emitted (begins_at (emit_value x)) >>= λ c.
    emits_of (and_label (emit_label x) before) more >>= λ os.
    gives (record { label = label_of (emit_label x); channel = c } ∷ os)
emits_of before _ = gives []

-- a name that is taken twice
abbrev pub taken_twice : List (List ℕ) → List Tree → Option LowerFault
taken_twice before [] = None
taken_twice before (n ∷ ns) = or_else (label_fault before (Some n)) (taken_twice (name_in n ∷ before) ns)

abbrev pub statements_in : Tree → Tree
statements_in (tree.section p xs) = xs
statements_in e = e

-- what a workflow's body emits
abbrev pub workflow_walk : Tree → Walk (List Output)
workflow_walk (tree.parts take main emit) =
    unless_fault (taken_twice [] (names_taken take)) >>= λ _. (part_of (statements_in main)).body >>= λ _.
    emits_of [] emit
workflow_walk body = (part_of body).body >>= λ _. gives []

abbrev pub body_in : Tree → Tree
body_in (tree.workflow p n body) = body
body_in _ = empty

abbrev pub take_in : Tree → List Tree
take_in (tree.parts take main emit) = names_taken take
take_in _ = []

-- each name that is taken, with the argument at its place; the last argument first
abbrev pub bound : List Tree → List Channel → List (List ℕ × Thing)
bound [] cs = []
bound (n ∷ ns) [] = []
bound (n ∷ ns) (c ∷ cs) = bound ns cs ++ (name_in n, a_channel c) ∷ []

-- the scope of a workflow's body that is called here
abbrev pub inner_scope : List ℕ → Tree → List Channel → Scope → Scope
inner_scope n body cs x = record {
  path = x.path ++ n ++ codes ":";
  within = n ∷ x.within;
  own = [];
  defined = [];
  names = bound (take_in body) cs;
  called = [];
  calls = [];
}

-- back in the body of the call
abbrev pub back_in : Scope → Lowered (List Output × State) → Lowered (List Output × State)
back_in x (Ok r) = Ok (r.0, record r.1 { scope = x })
back_in x (Err f) = Err f

-- the call of a workflow, whose body has this around it
abbrev pub enter_in : Around → Place → List ℕ → Tree → List Channel → Step (List Output)
enter_in a p n t cs s =
    back_in s.scope (workflow_walk (body_in t) a (record s { scope = inner_scope n (body_in t) cs s.scope }))

-- calls of workflows, at most so many of them within each other
abbrev pub around_at : Around → ℕ → Around
around_at a zero = a
around_at a (suc k) = record a { enter = enter_in (around_at a k) }

-- ---- definitions

abbrev pub and_definition : Tree → Definitions → Definitions
and_definition (tree.process p n ds ins os task stub) d =
    record d { processes = (name_in n, tree.process p n ds ins os task stub) ∷ d.processes }
and_definition (tree.workflow p (tree.name q n) body) d =
    record d { workflows = (n, tree.workflow p (tree.name q n) body) ∷ d.workflows }
and_definition (tree.function p n ps b) d = record d {
  functions = record { name = name_in n; params = names_in ps; body = b } ∷ d.functions;
  parameters = (name_in n, ps) ∷ d.parameters;
}
and_definition _ d = d

abbrev pub definitions_of : Tree → Definitions
definitions_of (cons x more) = and_definition x (definitions_of more)
definitions_of _ = record { processes = []; workflows = []; functions = []; parameters = [] }

-- ---- what is known everywhere: the parameters, and folders

abbrev pub everywhere : Given → List (List ℕ × Plain) → List (List ℕ × Plain)
everywhere g params =
    (codes "params", table (plain_pairs_of params)) ∷ (codes "projectDir", text g.folder)
    ∷ (codes "baseDir", text g.folder) ∷ (codes "launchDir", text (codes ".")) ∷ []

-- with these parameters, and workflows that can't be called
abbrev pub around : Given → List (List ℕ × Plain) → Around
around g params = record {
  given = g;
  definitions = definitions_of g.tops;
  everywhere = everywhere g params;
  functions = functions_of (in_order (definitions_of g.tops).functions) g.patterns g.program.titles g.program.answer;
  enter = λ p n t cs s. Err (CallCycle p);
}

abbrev pub opening : State
opening = record {
  scope = record { path = []; within = []; own = []; defined = []; names = []; called = []; calls = [] };
  sizes = record { nodes = 0; ports = 0 };
  wants = [];
  paths = [];
  meant = nothing_meant;
}

-- ---- the tops of a script, in the order of the text

pub record Read : Type 0 where
  -- the names of the program's functions, and of processes, workflows and functions so far
  pub names : List (List ℕ)
  pub has_entry : Bool
  -- the parameters that the script set so far, and all that are set
  pub set : List (List ℕ)
  pub params : List (List ℕ × Plain)

abbrev pub only : {A : Type 0} → Lowered (A × State) → Lowered A
only (Ok r) = Ok r.0
only (Err f) = Err f

abbrev pub new_name : Tree → Read → Lowered Read
new_name n r =
    if is_among (name_in n) r.names then Err (TwiceDefined (place_of n))
    else Ok (record r { names = name_in n ∷ r.names })

abbrev pub new_entry : Place → Read → Lowered Read
new_entry p r = if r.has_entry then Err (TwiceDefined p) else Ok (record r { has_entry = true })

-- a parameter that is set from outside keeps its value
abbrev pub with_param : Given → List ℕ → Read → Plain → Read
with_param g n r v =
    record r {
      set = n ∷ r.set;
      params = if is_among n (map (λ b. b.0) g.params) then r.params else put (n, v) r.params;
    }

abbrev pub parameter : Given → Tree → Tree → Read → Lowered Read
parameter g n e r =
    if is_among (name_in n) r.set then Err (TwiceDefined (place_of n))
    else goes_on (only (value_of e (around g r.params) opening)) (λ v. Ok (with_param g (name_in n) r v))

abbrev pub after : Read → Lowered (Unit {0}) → Lowered Read
after r (Ok u) = Ok r
after r (Err f) = Err f

abbrev pub top_read : Given → Tree → Read → Lowered Read
top_read g (tree.process p n ds ins os task stub) r = new_name n r
top_read g (tree.workflow p empty body) r = new_entry p r
top_read g (tree.workflow p n body) r = new_name n r
top_read g (tree.function p n ps b) r = new_name n r
top_read g (tree.parameter p n e) r = parameter g n e r
top_read g (tree.println p e) r = after r (only (only_read e (around g r.params) opening))
top_read g (tree.log p n e) r = after r (only (logged (place_of n) (name_in n) e (around g r.params) opening))
top_read g _ r = Ok r

abbrev pub tops_read : Given → Tree → Read → Lowered Read
tops_read g (cons x more) r = goes_on (top_read g x r) (tops_read g more)
tops_read g _ r = Ok r

-- ---- the entry: the workflow without a name

abbrev pub entry_in : Tree → Option Tree
entry_in (cons (tree.workflow p empty body) more) = Some body
entry_in (cons x more) = entry_in more
entry_in _ = None

abbrev pub first_take : List Tree → Option LowerFault
first_take [] = None
first_take (n ∷ ns) = Some (BadOption (place_of n))

-- nothing calls it, so it takes no channel
abbrev pub entry_walk : Option Tree → Walk (List Output)
entry_walk None = refused (NoEntry first_place)
entry_walk (Some body) = unless_fault (first_take (take_in body)) >>= λ _. workflow_walk body

abbrev pub state_of : Lowered (List Output × State) → Lowered State
state_of (Ok r) = Ok r.1
state_of (Err f) = Err f

abbrev pub begun : Given → Read
begun g = record { names = g.program.titles; has_entry = false; set = []; params = g.params }

abbrev pub entry_around : Given → List (List ℕ × Plain) → Around
entry_around g params = around_at (around g params) (length (definitions_of g.tops).workflows)

-- where the walk through a script ends, or its first fault
abbrev pub ending : Given → Lowered State
ending g =
    goes_on (tops_read g g.tops (begun g))
    (λ r. state_of (entry_walk (entry_in g.tops) (entry_around g r.params) opening))

-- what the script means, or its first fault
abbrev pub meaning_of : Given → Lowered ScriptMeaning
meaning_of g = goes_on (ending g) (λ s. Ok s.meant)

-- the paths whose files the script reads, in the order of the text along its calls
abbrev pub wants_of : Given → Lowered (List Want)
wants_of g = goes_on (ending g) (λ s. Ok s.wants)

-- the paths of the processes that it calls
abbrev pub paths_of : Given → Lowered (List (List ℕ))
paths_of g = goes_on (ending g) (λ s. Ok s.paths)
