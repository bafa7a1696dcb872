-- The closures that operators take.
use Rattle.std.specs.Prelude.{ℕ, Bool, true, false, List, [], ◌∷◌, if◌then◌else◌, Option, None}
use Rattle.nf_value.specs.declared.place.Place.{Place}
use Rattle.nf_names_used.specs.Natives.{is_among}
use Rattle.nf_ast.specs.Tree as tree
use Rattle.nf_ast.specs.Tree.{Tree, empty, cons, place_of}
use Rattle.nf_names_used.specs.Scope.{Env}
use Rattle.nf_names_used.specs.Body.{name_in}
use Rattle.nf_tasks.specs.Evaluation.{Closing}
use Rattle.nf_names_used.specs.Uses.{no_names, entered, params_of, params_uses}
use Rattle.nf_meaning.specs.declared.fault.LowerFault.{LowerFault}
use Rattle.nf_meaning.specs.declared.fault.LowerFault.TheVariants.{TwiceDefined, BadOption}
use Rattle.nf_meaning.specs.Lowered.{or_else, fault_if}
use Rattle.nf_meaning.specs.Places.{begins_at}
use Rattle.nf_meaning.specs.Names.{Reading, before_run, in_run, unread, name_fault, uses_fault}
use Rattle.nf_meaning.specs.Functions.{names_fault}
use Rattle.nf_meaning.specs.Walk.{Walk, Around, Scope, ◌>>=◌, gives, refused, unless_fault, known_in, env_in, env_before_run}

abbrev pub is_label : Tree → Bool
is_label (tree.label n e) = true
is_label _ = false

abbrev pub has_labels : Tree → Bool
has_labels (cons a more) = is_label a
has_labels _ = false

abbrev pub labels_in : Tree → List (List ℕ)
labels_in (cons (tree.label n e) more) = name_in n ∷ labels_in more
labels_in (cons a more) = labels_in more
labels_in _ = []

abbrev pub env_for : Reading → Around → Scope → Env
env_for before_run a x = env_before_run a x
env_for in_run a x = env_in a x
env_for unread a x = env_in a x

abbrev pub closing_in : Env → Place → Tree → Tree → Closing
closing_in env p ps b = record { place = p; params = ps; body = b; env = env }

-- a closure of statements, whose names are looked at
abbrev pub statements_closure : Reading → Place → Tree → Tree → Walk Closing
statements_closure r p ps b a s =
    (unless_fault (names_fault a.given a.definitions (known_in a s.scope) r (tree.closure p ps b) no_names) >>= λ _.
    gives (closing_in (env_for r a s.scope) p ps b)) a s

abbrev pub without_labels : Reading → Place → Tree → Tree → Walk Closing
without_labels r p ps b = if has_labels b then refused (BadOption p) else statements_closure r p ps b

-- where a closure is wanted and there is none; a name that nothing binds is at fault first
abbrev pub bare_fault : Around → Scope → Tree → Option LowerFault
bare_fault a x (tree.name p n) = name_fault a.definitions a.given.program.titles (known_in a x) unread p n
bare_fault a x _ = None

abbrev pub no_closure : {A : Type 0} → Tree → Walk A
no_closure e a s = (unless_fault (bare_fault a s.scope e) >>= λ _. refused (BadOption (begins_at e))) a s

-- the closure that an argument is
abbrev pub closure_arg : Reading → Tree → Walk Closing
closure_arg r (tree.closure p ps b) = without_labels r p ps b
closure_arg r e = no_closure e

-- the parameters of a closure of labels, then each label and its expression
abbrev pub label_fault : List (List ℕ) → Tree → Option LowerFault
label_fault before n = fault_if (is_among (name_in n) before) (TwiceDefined (place_of n))

abbrev pub labels_fault : (Tree → Option LowerFault) → List (List ℕ) → Tree → Option LowerFault
labels_fault judge before (cons (tree.label n e) more) =
    or_else (label_fault before n) (or_else (judge e) (labels_fault judge (name_in n ∷ before) more))
labels_fault judge before (cons a more) = or_else (judge a) (labels_fault judge before more)
labels_fault judge before _ = None

-- what is wrong with the names of a label's expression
abbrev pub label_judge : Around → Scope → Tree → Tree → Option LowerFault
label_judge a x ps e = names_fault a.given a.definitions (known_in a x) in_run e (entered (params_of ps) no_names)

abbrev pub labels_closure : Place → Tree → Tree → Walk Closing
labels_closure p ps b a s =
    (unless_fault (uses_fault a.given a.definitions (known_in a s.scope) in_run (params_uses ps)) >>= λ _.
    unless_fault (labels_fault (label_judge a s.scope ps) [] b) >>= λ _.
    gives (closing_in (env_in a s.scope) p ps b)) a s

abbrev pub with_labels : Place → Tree → Tree → Walk Closing
with_labels p ps b = if has_labels b then labels_closure p ps b else refused (BadOption p)

-- the closure of labels that an argument is
abbrev pub labels_arg : Tree → Walk Closing
labels_arg (tree.closure p ps b) = with_labels p ps b
labels_arg e = no_closure e

-- the closure that is just a name
abbrev pub word_arg : Tree → Walk (List ℕ)
word_arg (tree.closure p empty (cons (tree.name q n) empty)) = gives n
word_arg (tree.closure p ps b) = refused (BadOption p)
word_arg e = no_closure e
