-- What the parts of a workflow's body mean, by where they stand.
use Rattle.std.specs.Prelude.{ℕ, pos, negsuc, Bool, true, false, List, [], ◌∷◌, ◌++◌, codes, bytes_eq, slice_get, if◌then◌else◌, Option, Some, None}
use Rattle.nf_value.specs.declared.place.Place.{Place}
use Rattle.nf_value.specs.Plain.{Plain, null, truth, int, text, file, list, table}
use Rattle.nf_value.specs.Truth.{truth_of}
use Rattle.nf_names_used.specs.Outcome.{limited}
use Rattle.nf_names_used.specs.Lists.{list_of}
use Rattle.nf_names_used.specs.Natives.{is_among}
use Rattle.nf_ast.specs.declared.operators.InfixOperator.{InfixOperator}
use Rattle.nf_ast.specs.declared.operators.InfixOperator.TheVariants as infix_operator
use Rattle.nf_ast.specs.Tree as tree
use Rattle.nf_ast.specs.Tree.{Tree, empty, cons, place_of}
use Rattle.nf_names_used.specs.Placed.{at_place}
use Rattle.nf_names_used.specs.Body.{name_in, names_in, split}
use Rattle.nf_tasks.specs.Evaluation.{opening}
use Rattle.nf_optable.specs.declared.rows.OpRow.{OpRow}
use Rattle.nf_optable.specs.Rows.{operator_rows, row_of}
use Rattle.nf_meaning.specs.declared.fault.LowerFault.{LowerFault}
use Rattle.nf_meaning.specs.declared.fault.LowerFault.TheVariants.{UnknownName, TwiceDefined, BadOption}
use Rattle.nf_meaning.specs.Lowered.{known, fault_if}
use Rattle.nf_meaning.specs.Places.{begins_at}
use Rattle.nf_meaning.specs.Things.{Thing, a_value, a_channel, outputs, Channel, channels_of, output_named, widened, thing_named}
use Rattle.nf_meaning.specs.Names.{Called, a_process, a_workflow, called_by, is_channel_word}
use Rattle.nf_meaning.specs.Walk.{Walk, Scope, ◌>>=◌, gives, refused, lifted, unless_fault, wanted, with_scope, the_scope, things_in, defining, assigning, in_braces}
use Rattle.nf_meaning.specs.Expressions.{is_leading, value_of, only_read, value_wanted, channel_wanted, not_tied_to_file}
use Rattle.nf_meaning.specs.Arguments.{Arg, unnamed}
use Rattle.nf_meaning.specs.Sources.{source_call}
use Rattle.nf_meaning.specs.Operators.{operator_call, on_thing}
use Rattle.nf_meaning.specs.Calls.{named_call}

pub record Part : Type 0 where
  -- as an expression; and at the head of a pipe
  pub thing : Walk Thing
  pub head : Walk Thing
  -- before `.NAME`, and before `.NAME(..)`
  pub member : Place → List ℕ → Walk Thing
  pub method : Place → List ℕ → List Arg → Walk Thing
  -- before arguments in brackets; before a closure; as the name of a call
  pub called : Place → List Arg → Walk Thing
  pub closed : Place → List Arg → Walk Thing
  pub named : List Arg → Walk Thing
  -- after `|`, with what stands before it; and there before a closure
  pub piped : Arg → Walk Thing
  pub piped_closed : Arg → List Arg → Walk Thing
  -- as an argument; parts in a row, as arguments and as the items of a list
  pub argument : Arg
  pub arguments : List Arg
  pub items : Walk (List Plain)
  -- as a statement; parts in a row, as statements
  pub done : Walk (Unit {0})
  pub body : Walk (Unit {0})

-- ---- things

-- the output of a call that has this name; p is the name's place, q that of the expression before it
abbrev pub member_of : Place → Place → List ℕ → Thing → Walk Thing
member_of q p n (outputs os) = wanted (output_named n os) (UnknownName p) >>= λ c. gives (a_channel c)
member_of q p n (a_channel c) = refused (BadOption p)
member_of q p n (a_value v) = refused (BadOption q)

-- the call of an operator on what was made before
abbrev pub method_by : Option OpRow → Place → Thing → List Arg → Walk Thing
method_by (Some k) p t xs = operator_call p k (unnamed xs) (λ r. on_thing p k r t xs)
method_by None p t xs = refused (UnknownName p)

-- `.NAME(..)`, with the places as above
abbrev pub method_of : Place → Place → List ℕ → List Arg → Thing → Walk Thing
method_of q p n xs (a_channel c) = method_by (row_of n operator_rows) p (a_channel c) xs
method_of q p n xs (outputs os) = method_by (row_of n operator_rows) p (outputs os) xs
method_of q p n xs (a_value v) = refused (BadOption q)

-- the output at a place among all; p is the place of the bracket, q that of the index
abbrev pub output_at : Place → Place → Plain → List Channel → Walk Thing
output_at p q (int (pos k)) cs = wanted (slice_get cs k) (UnknownName p) >>= λ c. gives (a_channel c)
output_at p q (int (negsuc k)) cs = refused (UnknownName p)
output_at p q null cs = refused (BadOption q)
output_at p q (truth b) cs = refused (BadOption q)
output_at p q (text t) cs = refused (BadOption q)
output_at p q (file n d l) cs = refused (BadOption q)
output_at p q (list vs) cs = refused (BadOption q)
output_at p q (table ps) cs = refused (BadOption q)

-- `[i]`, of an expression that begins at q
abbrev pub index_of : Place → Place → Place → Walk Plain → Thing → Walk Thing
index_of q p r i (outputs os) = i >>= λ v. output_at p r v (channels_of os)
index_of q p r i (a_channel c) = refused (BadOption p)
index_of q p r i (a_value v) = refused (BadOption q)

-- ---- lists that hold files: their weight is judged in the same way whatever is found

abbrev pub list_made : Place → List Plain → Walk Thing
list_made p vs = lifted (known (at_place p (limited (widened (list_of vs))))) >>= λ _. gives (a_value (list_of vs))

-- ---- names

-- `P.out`, where P was called in this body
abbrev pub out_of : Place → Option Thing → Walk Thing
out_of p (Some t) = gives t
out_of p None = refused (UnknownName p)

-- `out` of the process or workflow m, whose name stands at q, is what its call gave; `channel` has no such parts
abbrev pub free_member : Bool → Scope → Place → List ℕ → Place → List ℕ → Walk Thing
free_member true x q m p n = refused (BadOption p)
free_member false x q m p n =
    if bytes_eq n (codes "out") then out_of q (thing_named m x.calls) else refused (BadOption p)

abbrev pub name_member : Option Thing → Scope → Place → List ℕ → Place → List ℕ → Walk Thing
name_member (Some t) x q m p n = member_of q p n t
name_member None x q m p n = free_member (is_channel_word m) x q m p n

-- `channel.of(..)`; a process has no methods
abbrev pub free_method : Bool → Place → Place → List ℕ → List Arg → Walk Thing
free_method true q p n xs = source_call p n xs
free_method false q p n xs = refused (BadOption q)

abbrev pub name_method : Option Thing → Place → List ℕ → Place → List ℕ → List Arg → Walk Thing
name_method (Some t) q m p n xs = method_of q p n xs t
name_method None q m p n xs = free_method (is_channel_word m) q p n xs

-- what a name stands for that is bound in the body
abbrev pub name_thing : Option Thing → Place → Walk Thing
name_thing (Some t) p = gives t
name_thing None p = refused (BadOption p)

-- the name of a process or a workflow at the head of a pipe is its call without arguments
abbrev pub head_of : Called → Place → List ℕ → Walk Thing → Walk Thing
head_of (a_process t) p n w = named_call p n []
head_of (a_workflow t) p n w = named_call p n []
head_of c p n w = w

abbrev pub name_head : Option Thing → Called → Place → List ℕ → Walk Thing → Walk Thing
name_head (Some t) c p n w = w
name_head None c p n w = head_of c p n w

-- ---- parts

-- an expression that leads to no channel and to no file is a value
abbrev pub by_kind : Tree → Walk Thing → Walk Thing
by_kind e w a s = if is_leading a s.scope e then w a s else (value_of e >>= λ v. gives (a_value v)) a s

abbrev pub argument_of : Tree → Walk Thing → Arg
argument_of e w = record { label = None; tree = e; thing = w }

-- what stands before a pipe, as an argument
abbrev pub already : Tree → Thing → Arg
already e t = argument_of e (gives t)

-- a value that holds a file is no statement
abbrev pub done_with : Place → Walk Thing → Walk (Unit {0})
done_with p w = w >>= not_tied_to_file p

-- an expression that can't be called
abbrev pub expression : Tree → Walk Thing → Part
expression e w = record {
  thing = by_kind e w;
  head = by_kind e w;
  member = λ p n. by_kind e w >>= member_of (begins_at e) p n;
  method = λ p n xs. by_kind e w >>= method_of (begins_at e) p n xs;
  called = λ p xs. refused (BadOption p);
  closed = λ p xs. refused (BadOption p);
  named = λ xs. refused (BadOption (begins_at e));
  piped = λ x. refused (BadOption (begins_at e));
  piped_closed = λ x xs. refused (BadOption (begins_at e));
  argument = argument_of e (by_kind e w);
  arguments = [];
  items = gives [];
  done = done_with (begins_at e) (by_kind e w);
  body = gives tt;
}

abbrev pub nothing_there : Part
nothing_there = record (expression empty (gives (a_value null))) { done = gives tt }

abbrev pub statement : Walk (Unit {0}) → Part
statement w = record nothing_there { done = w }

abbrev pub of_name : Place → List ℕ → Part
of_name p n = record (expression (tree.name p n) (λ a s. name_thing (thing_named n (things_in s.scope)) p a s)) {
  head = λ a s. name_head (thing_named n (things_in s.scope)) (called_by a.definitions a.given.program.titles n) p n
      (by_kind (tree.name p n) (name_thing (thing_named n (things_in s.scope)) p)) a s;
  member = λ q m a s. name_member (thing_named n (things_in s.scope)) s.scope p n q m a s;
  method = λ q m xs a s. name_method (thing_named n (things_in s.scope)) p n q m xs a s;
  called = λ q xs. named_call p n xs;
  closed = λ q xs. named_call p n xs;
  named = λ xs. named_call p n xs;
  piped = λ x. named_call p n (x ∷ []);
  piped_closed = λ x xs. named_call p n (x ∷ xs);
}

abbrev pub of_property : Tree → Part → Place → List ℕ → Part
of_property e before p n = record (expression e (before.member p n)) {
  called = λ q xs. before.method p n xs;
  closed = λ q xs. before.method p n xs;
}

abbrev pub of_call : Tree → Place → Part → List Arg → Part
of_call e p f xs = record (expression e (f.called p xs)) {
  closed = λ q more. f.called p (xs ++ more);
  piped = λ x. f.named (x ∷ xs);
  piped_closed = λ x more. f.named (x ∷ xs ++ more);
}

abbrev pub of_closed : Tree → Place → Part → Arg → Part
of_closed e p f c = record (expression e (f.closed p (c ∷ []))) { piped = λ x. f.piped_closed x (c ∷ []) }

-- what stands before a pipe is a channel: a value becomes one there
abbrev pub flowing : Place → Thing → Walk Thing
flowing p (a_value v) = channel_wanted p (a_value v) >>= λ c. gives (a_channel c)
flowing p (a_channel c) = gives (a_channel c)
flowing p (outputs os) = gives (outputs os)

abbrev pub of_binary : InfixOperator → Tree → Tree → Part → Part → Part
of_binary infix_operator.Pipe e left a b =
    expression e (a.head >>= flowing (begins_at left) >>= λ t. b.piped (already left t))
of_binary k e left a b = expression e (gives (a_value null))

-- ---- statements

-- each name of a `def` for the first time between its braces
abbrev pub again_fault : List (List ℕ) → Tree → Option LowerFault
again_fault before n = fault_if (is_among (name_in n) before) (TwiceDefined (place_of n))

abbrev pub new_names : List (List ℕ) → Tree → Walk (Unit {0})
new_names before (cons n more) = unless_fault (again_fault before n) >>= λ _. new_names (name_in n ∷ before) more
new_names before _ = gives tt

abbrev pub bind_all : List (List ℕ × Plain) → Walk (Unit {0})
bind_all [] = gives tt
bind_all (b ∷ bs) = with_scope (defining b.0 (a_value b.1)) >>= λ _. bind_all bs

abbrev pub define_one : Tree → Walk Thing → Walk (Unit {0})
define_one n w =
    the_scope >>= λ x. unless_fault (again_fault x.defined n) >>= λ _. w >>= λ t. with_scope (defining (name_in n) t)

abbrev pub define_each : Place → Tree → Place → Walk Thing → Walk (Unit {0})
define_each p ns q w =
    the_scope >>= λ x. new_names x.defined ns >>= λ _. w >>= value_wanted q >>= λ v.
    lifted (known (split p (names_in ns) v)) >>= bind_all

abbrev pub chosen : Walk (Unit {0}) → Walk (Unit {0}) → Plain → Walk (Unit {0})
chosen first other v = if truth_of v then first else other

-- `log.info`
abbrev pub logged : Place → List ℕ → Tree → Walk (Unit {0})
logged p n e = if bytes_eq n (codes "info") then only_read e else refused (BadOption p)

-- ---- all parts

abbrev pub part_of : Tree → Part
part_of empty = nothing_there
part_of (cons x more) = record nothing_there {
  arguments = (part_of x).argument ∷ (part_of more).arguments;
  items = (part_of x).thing >>= value_wanted (begins_at x) >>= λ v. (part_of more).items >>= λ vs. gives (v ∷ vs);
  body = (part_of x).done >>= λ _. (part_of more).body;
}
part_of (tree.name p n) = of_name p n
part_of (tree.list p xs) = expression (tree.list p xs) ((part_of xs).items >>= list_made p)
part_of (tree.binary p k a b) = of_binary k (tree.binary p k a b) a (part_of a) (part_of b)
part_of (tree.conditional p c a b) =
    expression (tree.conditional p c a b)
    (value_of c >>= λ v. if truth_of v then (part_of a).thing else (part_of b).thing)
part_of (tree.property e n) = of_property (tree.property e n) (part_of e) (place_of n) (name_in n)
part_of (tree.index p e i) =
    expression (tree.index p e i) ((part_of e).thing >>= index_of (begins_at e) p (begins_at i) (value_of i))
part_of (tree.call p f xs) = of_call (tree.call p f xs) p (part_of f) (part_of xs).arguments
part_of (tree.call_with f c) = of_closed (tree.call_with f c) (opening c) (part_of f) (part_of c).argument
part_of (tree.named n e) =
    record (part_of e) {
      argument = record { label = Some (place_of n, name_in n); tree = e; thing = (part_of e).thing };
    }
part_of (tree.define p n e) = statement (define_one n (part_of e).thing)
part_of (tree.define_all p ns e) = statement (define_each p ns (begins_at e) (part_of e).thing)
part_of (tree.assign n e) = statement ((part_of e).thing >>= λ t. with_scope (assigning (name_in n) t))
part_of (tree.return_ p e) = statement (refused (BadOption p))
part_of (tree.choice p c b last) = statement (value_of c >>= chosen (part_of b).done (part_of last).done)
part_of (tree.statements b) = statement (in_braces (part_of b).body)
part_of (tree.println p e) = statement (only_read e)
part_of (tree.log p n e) = statement (logged (place_of n) (name_in n) e)
part_of e = expression e (gives (a_value null))
