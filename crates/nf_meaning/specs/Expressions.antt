-- The values of expressions in a workflow's body, and which expressions lead to channels or files.
use Rattle.std.specs.Prelude.{ℕ, Bool, true, false, ◌||◌, List, Option, Some, None}
use Rattle.nf_value.specs.Plain.{Plain}
use Rattle.nf_value.specs.declared.place.Place.{Place}
use Rattle.nf_ast.specs.declared.operators.InfixOperator.{InfixOperator}
use Rattle.nf_ast.specs.declared.operators.InfixOperator.TheVariants as infix_operator
use Rattle.nf_ast.specs.Tree as tree
use Rattle.nf_ast.specs.Tree.{Tree, cons}
use Rattle.nf_tasks.specs.Evaluation.{eval_of}
use Rattle.nf_names_used.specs.Uses.{no_names}
use Rattle.nf_meaning.specs.declared.fault.LowerFault.{LowerFault}
use Rattle.nf_meaning.specs.declared.fault.LowerFault.TheVariants.{BadOption}
use Rattle.nf_meaning.specs.Lowered.{known, unless, fault_if}
use Rattle.nf_meaning.specs.Things.{Thing, a_value, a_channel, outputs, Channel, value_channel, only_one, holds_file, thing_named}
use Rattle.nf_meaning.specs.Names.{Called, a_process, a_workflow, a_function, a_file, an_operator, unknown, called_by, leads_to_channels, before_run, unread}
use Rattle.nf_meaning.specs.Functions.{names_fault}
use Rattle.nf_meaning.specs.Walk.{Walk, Around, Scope, ◌>>=◌, gives, refused, lifted, unless_fault, known_in, env_before_run, things_in}
use Rattle.nf_meaning.specs.Sizes.{counted}

-- ---- which expressions lead to channels or files

abbrev pub is_tied : Thing → Bool
is_tied (a_value v) = holds_file v
is_tied (a_channel c) = true
is_tied (outputs os) = true

abbrev pub name_leads : Option Thing → Bool → Bool
name_leads (Some t) free = is_tied t
name_leads None free = free

abbrev pub call_leads : Called → Bool
call_leads (a_process t) = true
call_leads (a_workflow t) = true
call_leads a_file = true
call_leads (an_operator r) = true
call_leads a_function = false
call_leads unknown = false

abbrev pub is_pipe : InfixOperator → Bool
is_pipe infix_operator.Pipe = true
is_pipe _ = false

-- what a name and the name of a call lead to
pub record Leads : Type 0 where
  pub name : List ℕ → Bool
  pub call : List ℕ → Bool

abbrev pub leads_in : Around → Scope → Leads
leads_in a x = record {
  name = λ n. name_leads (thing_named n (things_in x)) (leads_to_channels a.definitions n);
  call = λ n. call_leads (called_by a.definitions a.given.program.titles n);
}

-- as an expression, and where it is called
pub record Leading : Type 0 where
  pub alone : Bool
  pub called : Bool

abbrev pub never : Leading
never = record { alone = false; called = false }

abbrev pub leading : Leads → Tree → Leading
leading l (tree.name p n) = record { alone = l.name n; called = l.call n }
leading l (tree.property e n) = record { alone = (leading l e).alone; called = (leading l e).alone }
leading l (tree.index p e i) = record { alone = (leading l e).alone; called = false }
leading l (tree.call p f xs) = record { alone = (leading l f).called; called = (leading l f).called }
leading l (tree.call_with f c) = record { alone = (leading l f).called; called = (leading l f).called }
leading l (tree.binary p k a b) = record { alone = is_pipe k; called = false }
leading l (tree.conditional p c a b) = record { alone = (leading l a).alone || (leading l b).alone; called = false }
leading l (tree.list p xs) = record { alone = (leading l xs).alone; called = false }
leading l (cons a more) = record { alone = (leading l a).alone || (leading l more).alone; called = false }
leading l _ = never

-- an expression that leads to a channel, to what a call gives, or to a file
abbrev pub is_leading : Around → Scope → Tree → Bool
is_leading a x e = (leading (leads_in a x) e).alone

-- ---- values

abbrev pub closure_fault : Tree → Option LowerFault
closure_fault (tree.closure p ps b) = Some (BadOption p)
closure_fault _ = None

-- an expression that is evaluated before the run. Its names are looked at first
abbrev pub value_of : Tree → Walk Plain
value_of e a s =
    lifted (
    unless (closure_fault e)
    (unless (names_fault a.given a.definitions (known_in a s.scope) before_run e no_names)
    (known (eval_of e (env_before_run a s.scope))))) a s

-- an expression that is read alone
abbrev pub only_read : Tree → Walk (Unit {0})
only_read e a s = unless_fault (names_fault a.given a.definitions (known_in a s.scope) unread e no_names) a s

-- ---- what is wanted of a thing; the place is where its expression begins

-- a value, which may hold a file
abbrev pub value_wanted : Place → Thing → Walk Plain
value_wanted p (a_value v) = gives v
value_wanted p (a_channel c) = refused (BadOption p)
value_wanted p (outputs os) = refused (BadOption p)

abbrev pub one_channel : Place → Option Channel → Walk Channel
one_channel p (Some c) = gives c
one_channel p None = refused (BadOption p)

-- a channel: a value becomes a value channel, which counts as a source, and a call with one output is that output
abbrev pub channel_wanted : Place → Thing → Walk Channel
channel_wanted p (a_value v) = counted p 0 >>= λ _. gives (value_channel v)
channel_wanted p (a_channel c) = gives c
channel_wanted p (outputs os) = one_channel p (only_one os)

abbrev pub file_fault : Place → Plain → Option LowerFault
file_fault p v = fault_if (holds_file v) (BadOption p)

-- neither a file nor a list that holds one
abbrev pub not_tied_to_file : Place → Thing → Walk (Unit {0})
not_tied_to_file p (a_value v) = unless_fault (file_fault p v)
not_tied_to_file p (a_channel c) = gives tt
not_tied_to_file p (outputs os) = gives tt
