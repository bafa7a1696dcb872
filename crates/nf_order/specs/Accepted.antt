-- Which scripts are accepted.
use Rattle.std.specs.Prelude.{◌≡◌, ℕ, zero, suc, Bool, true, false, List, [], ◌∷◌, ◌++◌, filter, Option, Some, None}
use Rattle.nf_builtins.specs.Natives.{is_among}
use Rattle.nf_ast.specs.Tree as tree
use Rattle.nf_ast.specs.Tree.{Tree, cons}
use Rattle.nf_placed.specs.Body.{name_in}
use Rattle.nf_names_used.specs.Uses.{uses, no_names}
use Rattle.nf_kinds.specs.declared.kinds.Kinds.{Kinds}
use Rattle.nf_kinds.specs.declared.fault.Broken.{Broken}
use Rattle.nf_kinds.specs.Fault.{IsFirst, first_of}
use Rattle.nf_kinds.specs.Kinds.{alone, as_channel, unknown_kind}
use Rattle.nf_kinds.specs.Scope.{Bindings, started}
use Rattle.nf_kinds.specs.Walk.{Out, came, Walk, ◌>>=◌, gives}
use Rattle.nf_kinds.specs.declared.args.Given.{Given}
use Rattle.nf_opkinds.specs.Results.{shape_of}
use Rattle.nf_opkinds.specs.Operators.{Call}
use Rattle.nf_slips.specs.Closures.{shared_by}
use Rattle.nf_slips.specs.Forms.{form_of, name_of}
use Rattle.nf_slips.specs.Slips.{slips}
use Rattle.nf_slips.specs.Definitions as definition
use Rattle.nf_slips.specs.Definitions.{Definition, definition_in, count_of, entry_in, main_of, taken_by, emits_of}
use Rattle.nf_order.specs.Callees.{Callee, a_process, a_workflow, a_function, Around}
use Rattle.nf_order.specs.Natives.{by_tables, table_names}
use Rattle.nf_order.specs.Parts.{part_of}

-- ---- a workflow

-- a name that a workflow takes is a channel; without an argument it is unknown
abbrev pub taken_with : List (List ℕ) → List Given → Bindings
taken_with [] gs = []
taken_with (n ∷ ns) [] = (n, alone unknown_kind) ∷ taken_with ns []
taken_with (n ∷ ns) (g ∷ gs) = (n, alone (as_channel g.shape.kinds)) ∷ taken_with ns gs

-- what is emitted, and its name: `n = e`, or an expression that is just a name
abbrev pub emit_name : Tree → Option (List ℕ)
emit_name (tree.assign n e) = Some (name_in n)
emit_name e = name_of (form_of e)

abbrev pub emit_value : Tree → Tree
emit_value (tree.assign n e) = e
emit_value e = e

abbrev pub emitted_one : Around → Tree → Walk (Option (List ℕ) × Kinds)
emitted_one a x = (part_of a (emit_value x)).thing >>= λ v. gives (emit_name x, as_channel v.kinds)

abbrev pub emitted : Around → Tree → Walk (List (Option (List ℕ) × Kinds))
emitted a (cons x more) = emitted_one a x >>= λ o. emitted a more >>= λ os. gives (o ∷ os)
emitted a t = gives []

abbrev pub ended : Out (List (Option (List ℕ) × Kinds)) → Call
ended (came os s fs) = record { gives = shape_of os; broken = fs }

-- a workflow with its arguments: its statements, and then what it emits
abbrev pub entered_with : Around → Tree → List Given → Call
entered_with a b args =
    ended (((part_of a (main_of b)).body >>= λ t. emitted a (emits_of b)) (started (taken_with (taken_by b) args)))

-- a call that leads back to a workflow in which it stands isn't entered
abbrev pub led_back : List Given → Call
led_back args = record { gives = alone unknown_kind; broken = [] }

abbrev pub unless_within : Bool → (List Given → Call) → List Given → Call
unless_within true f = led_back
unless_within false f = f

-- ---- what names call

abbrev pub is_undefined : Definition → Bool
is_undefined definition.nothing = true
is_undefined d = false

-- those of the names that the script doesn't define
abbrev pub undefined_of : Tree → List (List ℕ) → List (List ℕ)
undefined_of tops ns = filter (λ n. is_undefined (definition_in n tops)) ns

-- the names of tables that the script doesn't define
abbrev pub unknown_functions : Tree → List (List ℕ)
unknown_functions tops = undefined_of tops table_names

abbrev pub callee_by : Definition → List ℕ → (Tree → List Given → Call) → Callee
callee_by definition.nothing n f = by_tables n
callee_by definition.function n f = a_function
callee_by (definition.process ns) n f = a_process ns
callee_by (definition.workflow b) n f = a_workflow (f b)

-- What is around a body in which these workflows are entered; fs are the names that call nothing in a closure. So many
-- more calls may lead to each other as the script has definitions, since each leads to another workflow.
abbrev pub around : ℕ → Tree → List (List ℕ) → List (List ℕ) → Around
around zero tops fs within = record {
  callee = λ n. callee_by (definition_in n tops) n (λ b. led_back);
  unknown = fs;
}
around (suc k) tops fs within = record {
  callee = λ n. callee_by (definition_in n tops) n
      (λ b. unless_within (is_among n within) (entered_with (around k tops fs (within ++ n ∷ [])) b));
  unknown = fs;
}

-- ---- the whole

abbrev pub broken_from : Option Tree → Tree → List Broken
broken_from None tops = []
broken_from (Some b) tops = (entered_with (around (count_of tops) tops (unknown_functions tops) []) b []).broken

-- A function is judged as the closure of its parameters and its body, a process by all its text but the stub, and a
-- parameter by its closures.
abbrev pub definition_broken : Tree → List Broken
definition_broken (tree.function p n ps b) = shared_by (uses (tree.closure p (tree.params ps) b) no_names)
definition_broken (tree.process p n ds is os t s) = slips (tree.process p n ds is os t s)
definition_broken (tree.parameter p n e) = shared_by (uses e no_names)
definition_broken t = []

abbrev pub definitions_broken : Tree → List Broken
definitions_broken (cons t more) = definition_broken t ++ definitions_broken more
definitions_broken t = []

-- all rules that a script breaks: in its functions, processes and parameters, and from its entry on
abbrev pub all_broken : Tree → List Broken
all_broken tops = definitions_broken tops ++ broken_from (entry_in tops) tops

-- no rule is broken
abbrev pub IsAccepted : Tree → Type 0
IsAccepted tops = all_broken tops ≡ []

-- the rule that a script breaks first in its text
abbrev pub BreaksFirst : Tree → Broken → Type 0
BreaksFirst tops f = IsFirst f (all_broken tops)

-- the same as a function
abbrev pub first_broken : Tree → Option Broken
first_broken tops = first_of (all_broken tops)
