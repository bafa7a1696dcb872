-- Calls of operators, processes and workflows go the same way in two runs.
use Rattle.std.proofs.Common.{◌≡◌, ◌≤◌, ℕ, suc, List, [], ◌∷◌, ◌++◌, map, length, Bool, true, false, ◌&&◌, Option, Some, None, Ok, Err, refl, ap, sym, subst, ◌∙◌, if◌then◌else◌, arith}
use Rattle.std.specs.Prelude.{◌==◌, ◌||◌, ◌^◌, not, nat_le, codes, is_some}
use Rattle.std.specs.List.{AllByRecursion, list_all}
use Rattle.std.specs.Str.{bytes_eq}
use Rattle.std.proofs.lemmas.List.{append-nil}
use Rattle.std.proofs.lemmas.Slice.Eq.{bytes_eq-Decides}
use Rattle.std.proofs.lemmas.Bool.Decides.{nat_tests}
use Rattle.nf_value.specs.Plain.{Plain}
use Rattle.nf_value.specs.declared.place.Place.{Place}
use Rattle.nf_names_used.specs.Natives.{is_among}
use Rattle.nf_ast.specs.Tree as tree
use Rattle.nf_ast.specs.Tree.{Tree, empty, cons}
use Rattle.nf_bag.specs.declared.rows.Row.{Row}
use Rattle.nf_bag.specs.declared.rows.Row.TheVariants as row
use Rattle.nf_graph.specs.Row.{output_kind, ports_of}
use Rattle.nf_graph.specs.OutputKind.{OutputKind}
use Rattle.nf_graph.specs.OutputKind.TheVariants as output
use Rattle.nf_optable.specs.declared.rows.OpRow.{OpRow}
use Rattle.nf_optable.specs.declared.operator.Operator as declared_operator
use Rattle.nf_optable.specs.declared.operator.Operator.TheVariants.{Bag, Arrival}
use Rattle.nf_optable.specs.Operator.{operator_name}
use Rattle.nf_optable.specs.Rows.{operator_rows, row_of}
use Rattle.nf_graph.specs.Meaning.{numbered, same_inputs}
use Rattle.nf_graph.proofs.Lists.{inputs_law}
use Rattle.nf_graph.proofs.Bags.{numbered_once}
use Rattle.nf_graph.proofs.Tally.{one_if, tally, tally-map}
use Rattle.nf_tasks.specs.Inputs.{seen_names}
use Rattle.nf_tasks.specs.Memory.{Program}
use Rattle.nf_meaning.specs.declared.fault.LowerFault.{LowerFault}
use Rattle.nf_meaning.specs.declared.fault.LowerFault.TheVariants.{TwiceDefined, CallCycle, WrongArity, BadOption, TooManyNodes}
use Rattle.nf_meaning.specs.Lowered.{Lowered, or_else, fault_if}
use Rattle.nf_meaning.specs.Places.{begins_at}
use Rattle.nf_meaning.specs.Things.{Thing, a_value, a_channel, outputs, Channel, Output, are_values}
use Rattle.nf_meaning.specs.Given.{Definitions, tree_named, function_named}
use Rattle.nf_meaning.specs.Names.{in_run, Known, Called, a_process, a_workflow, a_function, a_file, an_operator, unknown, by_word, by_operator, by_function, by_workflow, by_process, called_by}
use Rattle.nf_meaning.specs.Walk.{Walk, Around, Scope, State, then_by, ◌>>=◌, refused, at_state, unless_fault, begins_call, is_bound, replaced, put, assigning, calling, env_with}
use Rattle.nf_meaning.specs.Sizes.{counted}
use Rattle.nf_meaning.specs.Arguments.{Arg, unnamed, is_unnamed, channel_args}
use Rattle.nf_meaning.specs.Taken.{Taken, nothing_taken, args_ports, takes, take_arg, take_args, ports_of as call_ports}
use Rattle.nf_meaning.specs.Operators.{Call, call_meaning, is_value_kind, given_at, labelled, result_of, applied, set_channel, set_outputs, counted_all, named_so, set_thing, with_channel, on_thing, on_argument, operator_call}
use Rattle.nf_meaning.specs.Operators as operators
use Rattle.nf_meaning.specs.Tasks.{CalledProcess, TaskCall, input_lists, instances_of, task_meaning, outputs_from}
use Rattle.nf_meaning.specs.Meaning.{Instance, and_meant}
use Rattle.nf_meaning.specs.Directives.{inside, seen_fault}
use Rattle.nf_meaning.specs.Processes.{inputs_in, called_process, process_with}
use Rattle.nf_meaning.specs.CallPaths.{is_plain_name, NamesArePlain, is_same_task}
use Rattle.nf_meaning.specs.Calls.{again_fault, arity_fault, called_here, task_call, tasks_mean, has_two_queues, call_fault, process_at, process_call, workflow_fault, entered, workflow_call, Receiver, and_other, receiver_or, receiver, operator_for, operator_on, call_of, named_call, take_of, cycle_fault}
use Rattle.nf_meaning.specs.Processes.{inputs_of}
use Rattle.nf_meaning.proofs.Growth.{Grows, AllOf, Once, process_grows, workflow_grows}
use Rattle.nf_meaning.proofs.Twins.{Channels, AllChannels, Outputs, Things, Named, Scopes, States, Ends, Arounds, Twin, Same, EndsInside, ends_on, on, on_same, weaker, given, given_same, refusal, meaning, in_scope}
use Rattle.nf_meaning.proofs.SameNames.{bound_alike, env_with_alike, names_here}
use Rattle.nf_meaning.proofs.SameArgs.{Args, AllArgs, unnamed_alike, length_alike, counting, channel_due, channel_arg_alike, channel_args_alike, file_calls}
use Rattle.nf_meaning.proofs.SameTaken.{Takens, Adds, nothing_alike, one_taken, adds_more, no_ports}
use Rattle.nf_meaning.proofs.FewItems.{AllFew, FewPorts, call_few, tasks_few, tally_zero, instance_at}

-- ---- all arguments of an operator

label_few : (l : Option (Place × List ℕ)) → is_unnamed l ≤ 1
label_few None = omega arith
label_few (Some n) = omega arith

arguments_taken : (k : OpRow) (r : Row) (xs ys : List Arg) → AllArgs xs ys → (t u : Taken) → Takens t u
    → Twin (Adds t (args_ports k.args (unnamed xs))) (take_args k r xs t) (take_args k r ys u)
arguments_taken k r [] [] h t u e = given t u (record { alike = e; few = omega (arith, no_ports k.args) })
arguments_taken k r (x ∷ xs) (y ∷ ys) h t u e =
    on (subst (λ n. Twin (Adds t (args_ports k.args (is_unnamed x.label))) (take_arg k r (unnamed xs == 0) x.label x t) (take_arg k r (n == 0) y.label y u)) (unnamed_alike xs ys h.1)
    (one_taken k r (unnamed xs == 0) x y h.0 t u e))
    (λ v w i. weaker (λ z q j. adds_more t k.args (is_unnamed x.label) (unnamed xs) v w z q i (label_few x.label) j) (arguments_taken k r xs ys h.1 v w i.alike))
arguments_taken k r [] (y ∷ ys) h t u e = absurd h
arguments_taken k r (x ∷ xs) [] h t u e = absurd h

-- ---- what an operator gives

values_alike : (cs ds : List Channel) → AllChannels cs ds → are_values cs ≡ are_values ds
values_alike [] [] h = refl
values_alike (c ∷ cs) (d ∷ ds) h = ap (λ b. b && are_values cs) h.0.kind ∙ ap (λ b. d.is_value && b) (values_alike cs ds h.1)
values_alike [] (d ∷ ds) h = absurd h
values_alike (c ∷ cs) [] h = absurd h

kind_alike : (k : OutputKind) (cs ds : List Channel) → AllChannels cs ds → is_value_kind k cs ≡ is_value_kind k ds
kind_alike output.Value cs ds h = refl
kind_alike output.Queue cs ds h = refl
kind_alike output.AsInputs cs ds h = values_alike cs ds h

all_few : (cs ds : List Channel) → AllChannels cs ds → AllFew cs
all_few [] [] h = tt
all_few (c ∷ cs) (d ∷ ds) h = (h.0.few, all_few cs ds h.1)
all_few [] (d ∷ ds) h = absurd h
all_few (c ∷ cs) [] h = absurd h

abbrev call : Place → Row → Taken → List Channel → Call
call p r t cs = record { place = p; row = r; taken = t; channels = cs }

given_alike : (p : Place) (r : Row) (t u : Taken) (cs ds : List Channel) → AllChannels cs ds → FewPorts (output_kind r) (length cs) (ports_of r) → (k : ℕ)
    → Channels (given_at (call p r t cs) k) (given_at (call p r u ds) k)
given_alike p r t u cs ds h l k = record { kind = kind_alike (output_kind r) cs ds h; few = call_few (call p r t cs) l (all_few cs ds h) k }

labelled_alike : (c d : Call) → ((k : ℕ) → Channels (given_at c k) (given_at d k)) → (k : ℕ) (ns : List (List ℕ)) → Outputs (labelled c k ns) (labelled d k ns)
labelled_alike c d h k [] = tt
labelled_alike c d h k (n ∷ ns) = (record { label = refl; channel = h k }, labelled_alike c d h (suc k) ns)

labels_alike : (c d : Call) → ((k : ℕ) → Channels (given_at c k) (given_at d k)) → c.taken.labels ≡ d.taken.labels
    → Outputs (labelled c 0 c.taken.labels) (labelled d 0 d.taken.labels)
labels_alike c d h e = subst (λ z. Outputs (labelled c 0 c.taken.labels) (labelled d 0 z)) e (labelled_alike c d h 0 c.taken.labels)

results_alike : (r : Row) (c d : Call) → ((k : ℕ) → Channels (given_at c k) (given_at d k)) → c.taken.labels ≡ d.taken.labels → Things (result_of r c) (result_of r d)
results_alike row.Branch c d h e = labels_alike c d h e
results_alike row.MultiMap c d h e = labels_alike c d h e
results_alike _ c d h e = h 0

applied_alike : (p : Place) (r : Row) (t u : Taken) (cs ds : List Channel) → Takens t u → AllChannels cs ds → FewPorts (output_kind r) (length cs) (ports_of r)
    → Twin Things (applied (call p r t cs)) (applied (call p r u ds))
applied_alike p r t u cs ds e h l =
    on_same (meaning _ _ refl) (λ x. given (result_of r (call p r t cs)) (result_of r (call p r u ds)) (results_alike r (call p r t cs) (call p r u ds) (given_alike p r t u cs ds h l) e.labels))

-- ---- `set`

set_channels : (p : Place) (t u : Taken) (c d : Channel) → Channels c d → Twin Channels (set_channel p t c) (set_channel p u d)
set_channels p t u c d h = on_same (meaning _ _ refl) (λ x. given _ _ (given_alike p row.Set t u (c ∷ []) (d ∷ []) (h, tt) (omega arith) 0))

sets : (p : Place) (t u : Taken) (os qs : List Output) → Outputs os qs → Twin Outputs (set_outputs p t os) (set_outputs p u qs)
sets p t u [] [] h = given [] [] tt
sets p t u (o ∷ os) (q ∷ qs) h =
    on (set_channels p t u o.channel q.channel h.0.channel) (λ c d k. on (sets p t u os qs h.1) (λ cs ds ks. given (record { label = o.label; channel = c } ∷ cs) (record { label = q.label; channel = d } ∷ ds) (record { label = h.0.label; channel = k }, ks)))
sets p t u [] (q ∷ qs) h = absurd h
sets p t u (o ∷ os) [] h = absurd h

all_counted : (p : Place) (os qs : List Output) → Outputs os qs → Twin Same (counted_all p os) (counted_all p qs)
all_counted p [] [] h = given_same tt
all_counted p (o ∷ os) (q ∷ qs) h = on_same (counting p 1) (λ x. all_counted p os qs h.1)
all_counted p [] (q ∷ qs) h = absurd h
all_counted p (o ∷ os) [] h = absurd h

by_name : (c d : Bool) (xs ys zs ws : List (List ℕ × Thing)) → c ≡ d → Named xs ys → Named zs ws → Named (if c then xs else zs) (if d then ys else ws)
by_name true true xs ys zs ws e h k = h
by_name false false xs ys zs ws e h k = k
by_name true false xs ys zs ws e h k = absurd cc
by_name false true xs ys zs ws e h k = absurd cc

replaced_alike : (n : List ℕ) (t u : Thing) (xs ys : List (List ℕ × Thing)) → Things t u → Named xs ys → Named (replaced n t xs) (replaced n u ys)
replaced_alike n t u [] [] e h = tt
replaced_alike n t u (x ∷ xs) (y ∷ ys) e h =
    by_name (bytes_eq x.0 n) (bytes_eq y.0 n) _ _ _ _ (ap (λ z. bytes_eq z n) h.0.0) ((refl, e), h.1) (h.0, replaced_alike n t u xs ys e h.1)
replaced_alike n t u [] (y ∷ ys) e h = absurd h
replaced_alike n t u (x ∷ xs) [] e h = absurd h

put_alike : (n : List ℕ) (t u : Thing) (xs ys : List (List ℕ × Thing)) → Things t u → Named xs ys → Named (put n t xs) (put n u ys)
put_alike n t u xs ys e h = by_name (is_bound n xs) (is_bound n ys) _ _ _ _ (bound_alike n xs ys h) (replaced_alike n t u xs ys e h) ((refl, e), h)

by_scope : (c d : Bool) (x y z w : Scope) → c ≡ d → Scopes x y → Scopes z w → Scopes (if c then x else z) (if d then y else w)
by_scope true true x y z w e h k = h
by_scope false false x y z w e h k = k
by_scope true false x y z w e h k = absurd cc
by_scope false true x y z w e h k = absurd cc

pub assigned_alike : (n : List ℕ) (t u : Thing) → Things t u → (x y : Scope) → Scopes x y → Scopes (assigning n t x) (assigning n u y)
assigned_alike n t u k x y e =
    by_scope (is_bound n x.own) (is_bound n y.own) _ _ _ _ (bound_alike n x.own y.own e.own)
    (record { path = e.path; within = e.within; own = replaced_alike n t u x.own y.own k e.own; defined = e.defined; names = e.names; called = e.called; calls = e.calls })
    (record { path = e.path; within = e.within; own = e.own; defined = e.defined; names = put_alike n t u x.names y.names k e.names; called = e.called; calls = e.calls })

pub assigned_stays : (n : List ℕ) (t : Thing) (x : Scope) → ((assigning n t x).path ≡ x.path) × ((assigning n t x).called ≡ x.called)
assigned_stays n t x = by (is_bound n x.own)
  where
    by : (c : Bool) → ((if c then record x { own = replaced n t x.own } else record x { names = put n t x.names }).path ≡ x.path)
        × ((if c then record x { own = replaced n t x.own } else record x { names = put n t x.names }).called ≡ x.called)
    by true = (refl, refl)
    by false = (refl, refl)

named_alike : (n m : List ℕ) (t u : Thing) → n ≡ m → Things t u → Twin Things (named_so n t) (named_so m u)
named_alike n m t u e h =
    subst (λ z. Twin Things (named_so n t) (named_so z u)) e
    (on_same (in_scope (assigning n t) (assigning n u) (assigned_alike n t u h) (assigned_stays n t)) (λ x. given t u h))

set_alike : (p : Place) (k : OpRow) (xs ys : List Arg) → AllArgs xs ys → (t u : Thing) → Things t u → (q : Place) → Twin Things (set_thing p k xs t q) (set_thing p k ys u q)
set_alike p k xs ys h (outputs os) (outputs qs) e q =
    on_same (all_counted p os qs e) (λ x. on (arguments_taken k row.Set xs ys h nothing_taken nothing_taken nothing_alike) (λ t u i.
    on (sets p t u os qs e) (λ more others j. named_alike t.word u.word (outputs more) (outputs others) i.alike.word j)))
set_alike p k xs ys h (a_channel c) (a_channel d) e q =
    on_same (counting p 1) (λ x. on (arguments_taken k row.Set xs ys h nothing_taken nothing_taken nothing_alike) (λ t u i.
    on (set_channels p t u c d e) (λ more others j. named_alike t.word u.word (a_channel more) (a_channel others) i.alike.word j)))
set_alike p k xs ys h (a_value v) (a_value w) e q =
    on_same (counting p 1) (λ x. on (channel_due q (a_value v) (a_value w) e) (λ c d m. on (arguments_taken k row.Set xs ys h nothing_taken nothing_taken nothing_alike) (λ t u i.
    on (set_channels p t u c d m) (λ more others j. named_alike t.word u.word (a_channel more) (a_channel others) i.alike.word j))))
set_alike p k xs ys h (a_value v) (a_channel d) e q = absurd e
set_alike p k xs ys h (a_value v) (outputs qs) e q = absurd e
set_alike p k xs ys h (a_channel c) (a_value w) e q = absurd e
set_alike p k xs ys h (a_channel c) (outputs qs) e q = absurd e
set_alike p k xs ys h (outputs os) (a_value w) e q = absurd e
set_alike p k xs ys h (outputs os) (a_channel d) e q = absurd e

-- ---- calls of operators

fewer_ports : (k : OutputKind) (m n most : ℕ) → m ≤ n → FewPorts k n most → FewPorts k m most
fewer_ports output.Value m n most l h = tt
fewer_ports output.Queue m n most l h = tt
fewer_ports output.AsInputs m n most l h = omega (arith, l, h)

channel_calls : (p : Place) (k : OpRow) (r : Row) (xs ys : List Arg) → AllArgs xs ys → FewPorts (output_kind r) (call_ports k (unnamed xs)) (ports_of r)
    → (c d : Channel) → Channels c d → Twin Things (with_channel p k r xs c) (with_channel p k r ys d)
channel_calls p k r xs ys h l c d m =
    on (arguments_taken k r xs ys h nothing_taken nothing_taken nothing_alike) (λ t u i.
    applied_alike p r t u (c ∷ t.channels) (d ∷ u.channels) i.alike (m, i.alike.channels)
    (fewer_ports (output_kind r) (length (c ∷ t.channels)) (call_ports k (unnamed xs)) (ports_of r) (omega (arith, i.few)) l))

pub things_called : (p : Place) (k : OpRow) (xs ys : List Arg) → AllArgs xs ys → (t u : Thing) → Things t u → (r : Row) → FewPorts (output_kind r) (call_ports k (unnamed xs)) (ports_of r)
    → Twin Things (on_thing p k r t xs) (on_thing p k r u ys)
things_called p k xs ys h t u e row.Set l = set_alike p k xs ys h t u e p
things_called p k xs ys h t u e r l =
    on (channel_due p t u e) (λ c d m. on_same (subst (λ n. Twin Same (counted p (call_ports k (unnamed xs))) (counted p (call_ports k n))) (unnamed_alike xs ys h) (counting p _))
    (λ x. channel_calls p k _ xs ys h l c d m))

args_called : (p : Place) (k : OpRow) (x y : Arg) → Args x y → (xs ys : List Arg) → AllArgs xs ys → (r : Row) → FewPorts (output_kind r) (call_ports k (unnamed xs)) (ports_of r)
    → Twin Things (on_argument p k r x xs) (on_argument p k r y ys)
args_called p k x y e xs ys h row.Set l =
    on e.thing (λ t u i. subst (λ z. Twin Things (set_thing p k xs t (begins_at x.tree)) (set_thing p k ys u (begins_at z))) e.tree (set_alike p k xs ys h t u i (begins_at x.tree)))
args_called p k x y e xs ys h r l =
    on_same (subst (λ n. Twin Same (counted p (call_ports k (unnamed xs))) (counted p (call_ports k n))) (unnamed_alike xs ys h) (counting p _))
    (λ z. on (channel_arg_alike x y e) (channel_calls p k _ xs ys h l))

-- a row whose calls read few channels
abbrev FitsAs : declared_operator.Operator → OpRow → Type 0
FitsAs (Bag r) k = (n : ℕ) → takes k n ≡ true → FewPorts (output_kind r) (call_ports k n) (ports_of r)
FitsAs (Arrival o) k = Unit {0}

abbrev pub Fits : OpRow → Type 0
Fits k = FitsAs k.operator k

by_operators : (p : Place) (k : OpRow) (o : declared_operator.Operator) (n : ℕ) → FitsAs o k → takes k n ≡ true → (w v : Row → Walk Thing)
    → ((r : Row) → FewPorts (output_kind r) (call_ports k n) (ports_of r) → Twin Things (w r) (v r)) → Twin Things (operators.by_operator p o w) (operators.by_operator p o v)
by_operators p k (Bag r) n f e w v h = h r (f n e)
by_operators p k (Arrival o) n f e w v h = refusal (BadOption p)

pub operator_calls : (p : Place) (k : OpRow) (n : ℕ) → Fits k → (w v : Row → Walk Thing)
    → ((r : Row) → FewPorts (output_kind r) (call_ports k n) (ports_of r) → Twin Things (w r) (v r)) → Twin Things (operator_call p k n w) (operator_call p k n v)
operator_calls p k n f w v h = by (takes k n) refl
  where
    by : (c : Bool) → takes k n ≡ c → Twin Things (if c then operators.by_operator p k.operator w else refused (WrongArity p)) (if c then operators.by_operator p k.operator v else refused (WrongArity p))
    by true e = by_operators p k k.operator n f e w v h
    by false e = refusal (WrongArity p)

-- ---- the table

fitting : AllByRecursion Fits operator_rows
fitting = (
  λ n e. omega arith,
  (
    tt,
    (
      tt,
      (
        λ n e. tt,
        (
          λ n e. grind (arith, nat_tests),
          (
            λ n e. tt,
            (
              λ n e. tt,
              (
                tt,
                (
                  λ n e. omega arith,
                  (
                    λ n e. omega arith,
                    (
                      λ n e. tt,
                      (
                        λ n e. tt,
                        (
                          λ n e. omega arith,
                          (
                            λ n e. omega arith,
                            (
                              λ n e. tt,
                              (
                                λ n e. omega arith,
                                (
                                  λ n e. omega arith,
                                  (
                                    λ n e. tt,
                                    (
                                      tt,
                                      (
                                        λ n e. tt,
                                        (
                                          λ n e. tt,
                                          (
                                            λ n e. omega arith,
                                            (
                                              tt,
                                              (
                                                λ n e. tt,
                                                (
                                                  λ n e. omega arith,
                                                  (
                                                    λ n e. tt,
                                                    (
                                                      tt,
                                                      (
                                                        λ n e. tt,
                                                        (
                                                          λ n e. tt,
                                                          (
                                                            λ n e. tt,
                                                            (
                                                              λ n e. omega arith,
                                                              (
                                                                tt,
                                                                (
                                                                  λ n e. omega arith,
                                                                  (
                                                                      tt
                                                                      ),
                                                                ),
                                                              ),
                                                            ),
                                                          ),
                                                        ),
                                                      ),
                                                    ),
                                                  ),
                                                ),
                                              ),
                                            ),
                                          ),
                                        ),
                                      ),
                                    ),
                                  ),
                                ),
                              ),
                            ),
                          ),
                        ),
                      ),
                    ),
                  ),
                ),
              ),
            ),
          ),
        ),
      ),
    ),
  ),
)

abbrev pub MaybeFits : Option OpRow → Type 0
MaybeFits None = Unit {0}
MaybeFits (Some k) = Fits k

row_if : (c : Bool) (k : OpRow) (m : Option OpRow) → Fits k → MaybeFits m → MaybeFits (if c then Some k else m)
row_if true k m h i = h
row_if false k m h i = i

row_found : (n : List ℕ) (rows : List OpRow) → AllByRecursion Fits rows → MaybeFits (row_of n rows)
row_found n [] h = tt
row_found n (k ∷ rows) h = row_if (bytes_eq (operator_name k.operator) n) k (row_of n rows) h.0 (row_found n rows h.1)

pub row_fits : (n : List ℕ) → MaybeFits (row_of n operator_rows)
row_fits n = row_found n operator_rows fitting

-- ---- what is called

-- an operator that fits; a process or a workflow of a plain name
abbrev IsKnown : Definitions → List ℕ → Called → Type 0
IsKnown d n (an_operator k) = Fits k
IsKnown d n (a_process t) = NamesArePlain d → is_plain_name n ≡ true
IsKnown d n (a_workflow t) = NamesArePlain d → is_plain_name n ≡ true
IsKnown d n a_function = Unit {0}
IsKnown d n a_file = Unit {0}
IsKnown d n unknown = Unit {0}

first_true : (a b : Bool) → (a && b) ≡ true → a ≡ true
first_true true b h = refl
first_true false b h = h

second_true : (a b : Bool) → (a && b) ≡ true → b ≡ true
second_true true b h = h
second_true false true h = refl
second_true false false h = h

plain_if : (c : Bool) (n m : List ℕ) (u t : Tree) (later : Option Tree) → bytes_eq m n ≡ c → (if c then Some u else later) ≡ Some t → is_plain_name m ≡ true
    → (later ≡ Some t → is_plain_name n ≡ true) → is_plain_name n ≡ true
plain_if true n m u t later k e h i = subst (λ z. is_plain_name z ≡ true) ((bytes_eq-Decides m n).0 k) h
plain_if false n m u t later k e h i = i e

plain_named : (n : List ℕ) (bs : List (List ℕ × Tree)) (t : Tree) → tree_named n bs ≡ Some t → list_all (λ b. is_plain_name b.0) bs ≡ true → is_plain_name n ≡ true
plain_named n [] t e h = absurd cc
plain_named n (b ∷ bs) t e h =
    plain_if (bytes_eq b.0 n) n b.0 b.1 t (tree_named n bs) refl e (first_true (is_plain_name b.0) _ h) (λ i. plain_named n bs t i (second_true (is_plain_name b.0) _ h))

known_word : (d : Definitions) (n : List ℕ) → IsKnown d n (by_word n)
known_word d n = by (bytes_eq n (codes "file"))
  where
    row_known : (k : Option OpRow) → MaybeFits k → IsKnown d n (by_operator k)
    row_known (Some k) h = h
    row_known None h = tt

    by : (c : Bool) → IsKnown d n (if c then a_file else by_operator (row_of n operator_rows))
    by true = tt
    by false = row_known (row_of n operator_rows) (row_fits n)

known_function : (d : Definitions) (n : List ℕ) (c : Bool) → IsKnown d n (by_function c (by_word n))
known_function d n true = tt
known_function d n false = known_word d n

known_workflow : (d : Definitions) (n : List ℕ) (c : Called) (t : Option Tree) → tree_named n d.workflows ≡ t → IsKnown d n c → IsKnown d n (by_workflow t c)
known_workflow d n c (Some t) e h = λ p. plain_named n d.workflows t e p.workflows
known_workflow d n c None e h = h

known_process : (d : Definitions) (n : List ℕ) (c : Called) (t : Option Tree) → tree_named n d.processes ≡ t → IsKnown d n c → IsKnown d n (by_process t c)
known_process d n c (Some t) e h = λ p. plain_named n d.processes t e p.processes
known_process d n c None e h = h

all_known : (d : Definitions) (titles : List (List ℕ)) (n : List ℕ) → IsKnown d n (called_by d titles n)
all_known d titles n =
    known_process d n _ (tree_named n d.processes) refl
    (known_workflow d n _ (tree_named n d.workflows) refl (known_function d n (is_some (function_named n d.functions) || is_among n titles)))

-- ---- calls of processes

outputs_alike : (c d : TaskCall) → are_values c.channels ≡ are_values d.channels → (k : ℕ) (ls : List (Option (List ℕ))) → Outputs (outputs_from c k ls) (outputs_from d k ls)
outputs_alike c d e k [] = tt
outputs_alike c d e k (l ∷ ls) = (record { label = refl; channel = record { kind = e; few = tasks_few c k } }, outputs_alike c d e (suc k) ls)

called_alike : (n : List ℕ) (os qs : List Output) → Outputs os qs → Twin Things (called_here n os) (called_here n qs)
called_alike n os qs h =
    on_same (in_scope (calling n os) (calling n qs)
    (λ x y e. record { path = e.path; within = e.within; own = e.own; defined = e.defined; names = e.names; called = e.called; calls = ((refl, h), e.calls) })
    (λ x. (refl, refl)))
    (λ x. given (outputs os) (outputs qs) h)

abbrev seen_known : Around → Known
seen_known a = record { things = []; everywhere = map (λ b. b.0) a.everywhere }

faults_alike : (a b : Around) → Arounds a b → (seen : List (List ℕ)) (t : Tree) → seen_fault a seen t ≡ seen_fault b seen t
faults_alike a b h seen t =
    names_here a b h (seen_known a) (seen_known b) (record { things = tt; everywhere = ap (λ z. map (λ (c : List ℕ × Plain). c.0) z) h.everywhere }) in_run t
    (record { captured = []; own = seen; body = [] })

inside_alike : (a b : Around) → Arounds a b → (seen : List (List ℕ)) → inside a seen ≡ inside b seen
inside_alike a b h seen =
    ap (λ z. record { seen = seen; env = z; fault = seen_fault a seen }) (env_with_alike a b h [] [] true refl)
    ∙ ap (λ z. record { seen = seen; env = env_with b [] true; fault = z }) (λ i t. faults_alike a b h seen t i)

processes_alike : (a b : Around) → Arounds a b → (path : List ℕ) (t : Tree) → called_process a path t ≡ called_process b path t
processes_alike a b h path (tree.process p n ds ins os task stub) = ap (λ x. process_with x path ds ins os task) (inside_alike a b h (seen_names (inputs_in ins)))
processes_alike a b h path _ = refl

all_of_path : (path : List ℕ) (zs : List (List Plain × ℕ)) → AllOf path (map (λ z. record { call = path; inputs = z.0; n = z.1 }) zs)
all_of_path path [] = tt
all_of_path path (z ∷ zs) = (refl, all_of_path path zs)

-- no task of a call is made twice
tasks_once : (c : TaskCall) → Once (instances_of c)
tasks_once c z = subst (λ k. k ≤ 1) (sym (tally-map (λ (w : Instance). one_if (is_same_task z w)) (instance_at c) (numbered same_inputs (input_lists c.channels)))) (by (bytes_eq z.call c.path))
  where
    by : (b : Bool) → tally (λ (y : List Plain × ℕ). one_if (b && (same_inputs z.inputs y.0 && (z.n == y.1)))) (numbered same_inputs (input_lists c.channels)) ≤ 1
    by true = numbered_once same_inputs inputs_law z.inputs z.n (input_lists c.channels)
    by false = omega (arith, tally_zero (numbered same_inputs (input_lists c.channels)))

-- what is known of the state after the tasks of a call of this path
abbrev Grown : Definitions → State → State → List ℕ → Type 0
Grown d s w path = (c : TaskCall) → c.path ≡ path → NamesArePlain d → Grows s (record w { meant = and_meant w.meant (task_meaning c) })

tasks_left : (n : List ℕ) (c d : TaskCall) → c.called ≡ d.called → are_values c.channels ≡ are_values d.channels → (a b : Around) → Arounds a b → (s w u : State) → States w u
    → (NamesArePlain a.definitions → Grows s (record w { meant = and_meant w.meant (task_meaning c) })) → Ends Things a.definitions s (tasks_mean n c a w) (tasks_mean n d b u)
tasks_left n c d i v a b r s w u e grow =
    ends_on Things a.definitions s (record w { meant = and_meant w.meant (task_meaning c) })
    (called_here n (outputs_from c 0 c.called.labels) a (record w { meant = and_meant w.meant (task_meaning c) }))
    (called_here n (outputs_from d 0 d.called.labels) b (record u { meant = and_meant u.meant (task_meaning d) }))
    grow
    ((called_alike n (outputs_from c 0 c.called.labels) (outputs_from d 0 d.called.labels)
    (subst (λ z. Outputs (outputs_from c 0 c.called.labels) (outputs_from d 0 z.labels)) i (outputs_alike c d v 0 c.called.labels))).at a b r
    (record w { meant = and_meant w.meant (task_meaning c) }) (record u { meant = and_meant u.meant (task_meaning d) })
    (record { scope = e.scope; sizes = e.sizes; wants = e.wants; paths = e.paths }))

-- a step that goes on only without a fault, from a state that the walk has reached
unless_from : {A : Type 0} (P : A → A → Type 0) (d : Definitions) (r s u : State) (a b : Around) (f g : Option LowerFault) (w v : Walk A) → f ≡ g
    → (f ≡ None → Ends P d r (w a s) (v b u)) → Ends P d r ((unless_fault f >>= λ _. w) a s) ((unless_fault g >>= λ _. v) b u)
unless_from P d r s u a b f g w v i h = subst (λ z. Ends P d r ((unless_fault f >>= λ _. w) a s) ((unless_fault z >>= λ _. v) b u)) i (of_one f h)
  where
    of_one : (f : Option LowerFault) → (f ≡ None → Ends P d r (w a s) (v b u)) → Ends P d r ((unless_fault f >>= λ _. w) a s) ((unless_fault f >>= λ _. v) b u)
    of_one None h = h refl
    of_one (Some g) h = refl

unless_then : {A : Type 0} (P : A → A → Type 0) (d : Definitions) (s u : State) (a b : Around) (f g : Option LowerFault) (w v : Walk A) → f ≡ g
    → (f ≡ None → Ends P d s (w a s) (v b u)) → Ends P d s ((unless_fault f >>= λ _. w) a s) ((unless_fault g >>= λ _. v) b u)
unless_then P d s u a b f g w v i h = unless_from P d s s u a b f g w v i h

queues_alike : (cs ds : List Channel) → AllChannels cs ds → has_two_queues cs ≡ has_two_queues ds
queues_alike [] [] h = refl
queues_alike (c ∷ cs) (d ∷ ds) h =
    ap (λ b. if b then has_two_queues cs else not (are_values cs)) h.0.kind
    ∙ ap (λ z. if d.is_value then z else not (are_values cs)) (queues_alike cs ds h.1)
    ∙ ap (λ z. if d.is_value then has_two_queues ds else not z) (values_alike cs ds h.1)
queues_alike [] (d ∷ ds) h = absurd h
queues_alike (c ∷ cs) [] h = absurd h

call_faults : (p : Place) (c : CalledProcess) (cs ds : List Channel) → AllChannels cs ds → call_fault p c cs ≡ call_fault p c ds
call_faults p c cs ds h = ap (λ b. or_else (fault_if b (BadOption p)) (fault_if (nat_le (2 ^ 32) (length c.labels)) (TooManyNodes p))) (queues_alike cs ds h)

-- the tasks of a call, unless the call has two queues
abbrev tasks_from : Place → List ℕ → List ℕ → List Channel → Around → CalledProcess → Walk Thing
tasks_from p n path cs a c = unless_fault (call_fault p c cs) >>= λ _. tasks_mean n (task_call a path c cs)

process_left : (p : Place) (n : List ℕ) (t : Tree) (path : List ℕ) (cs ds : List Channel) → AllChannels cs ds → (a b : Around) → Arounds a b → (s w u : State) → States w u
    → Grown a.definitions s w path → Ends Things a.definitions s (process_at p n t path cs a w) (process_at p n t path ds b u)
process_left p n t path cs ds h a b r s w u e grow = of_two (called_process a path t) (called_process b path t) (processes_alike a b r path t)
  where
    of_one : (m : Lowered CalledProcess) → Ends Things a.definitions s (then_by a (tasks_from p n path cs a) (at_state w m)) (then_by b (tasks_from p n path ds b) (at_state u m))
    of_one (Ok c) =
        unless_from Things a.definitions s w u a b (call_fault p c cs) (call_fault p c ds) (tasks_mean n (task_call a path c cs)) (tasks_mean n (task_call b path c ds)) (call_faults p c cs ds h)
        (λ none. tasks_left n (task_call a path c cs) (task_call b path c ds) refl (values_alike cs ds h) a b r s w u e (grow (task_call a path c cs) refl))
    of_one (Err f) = refl

    of_two : (m k : Lowered CalledProcess) → m ≡ k → Ends Things a.definitions s (then_by a (tasks_from p n path cs a) (at_state w m)) (then_by b (tasks_from p n path ds b) (at_state u k))
    of_two m k i = subst (λ z. Ends Things a.definitions s (then_by a (tasks_from p n path cs a) (at_state w m)) (then_by b (tasks_from p n path ds b) (at_state u z))) i (of_one m)

process_entered : (p : Place) (n : List ℕ) (t : Tree) (path : List ℕ) (a b : Around) → Arounds a b → (s r : State) → ((w : State) → (NamesArePlain a.definitions → Grows r w) → Grown a.definitions s w path)
    → (m k : Lowered (List Channel × State)) → Ends AllChannels a.definitions r m k → Ends Things a.definitions s (then_by a (process_at p n t path) m) (then_by b (process_at p n t path) k)
process_entered p n t path a b h s r grow (Ok x) (Ok y) e = process_left p n t path x.0 y.0 e.0 a b h s x.1 y.1 e.1 (grow x.1 e.2)
process_entered p n t path a b h s r grow (Err i) (Err j) e = e
process_entered p n t path a b h s r grow (Ok x) (Err j) e = absurd e
process_entered p n t path a b h s r grow (Err i) (Ok y) e = absurd e

counted_left : (p : Place) (n : List ℕ) (t : Tree) (path : List ℕ) (xs ys : List Arg) → AllArgs xs ys → (a b : Around) → Arounds a b → (s r : State)
    → ((w : State) → (NamesArePlain a.definitions → Grows r w) → Grown a.definitions s w path)
    → (m k : Lowered (Unit {0} × State)) → Ends Same a.definitions r m k
    → Ends Things a.definitions s (then_by a (λ x. channel_args xs >>= process_at p n t path) m) (then_by b (λ x. channel_args ys >>= process_at p n t path) k)
counted_left p n t path xs ys h a b i s r grow (Ok x) (Ok y) e =
    process_entered p n t path a b i s r grow (channel_args xs a x.1) (channel_args ys b y.1)
    (ends_on AllChannels a.definitions r x.1 (channel_args xs a x.1) (channel_args ys b y.1) e.2 ((channel_args_alike xs ys h).at a b i x.1 y.1 e.1))
counted_left p n t path xs ys h a b i s r grow (Err f) (Err g) e = e
counted_left p n t path xs ys h a b i s r grow (Ok x) (Err g) e = absurd e
counted_left p n t path xs ys h a b i s r grow (Err f) (Ok y) e = absurd e

-- a name that is called for the first time
not_again : (p : Place) (n : List ℕ) (x : Scope) (later : Option LowerFault) → or_else (again_fault p n x) later ≡ None → is_among n x.called ≡ false
not_again p n x later e = by (is_among n x.called) e
  where
    by : (c : Bool) → or_else (fault_if c (TwiceDefined p)) later ≡ None → c ≡ false
    by true e = absurd (let f : Some (TwiceDefined p) ≡ None = e in cc)
    by false e = refl

begun_alike : (n : List ℕ) (s u : State) (ps qs : List (List ℕ)) → ps ≡ qs → States s u
    → States (record s { scope = record s.scope { called = n ∷ s.scope.called }; paths = s.paths ++ ps }) (record u { scope = record u.scope { called = n ∷ u.scope.called }; paths = u.paths ++ qs })
begun_alike n s u ps qs i e = record {
  scope = record { path = e.scope.path; within = e.scope.within; own = e.scope.own; defined = e.scope.defined; names = e.scope.names; called = ap (λ z. n ∷ z) e.scope.called; calls = e.scope.calls };
  sizes = e.sizes;
  wants = e.wants;
  paths = ap (λ z. z ++ ps) e.paths ∙ ap (λ z. u.paths ++ z) i;
}

abbrev begun : List ℕ → List (List ℕ) → State → State
begun n ps s = record s { scope = record s.scope { called = n ∷ s.scope.called }; paths = s.paths ++ ps }

abbrev process_rest : Place → List ℕ → Tree → List Arg → List ℕ → Walk Thing
process_rest p n t xs path = counted p (length xs) >>= λ _. channel_args xs >>= process_at p n t path

process_rests : (p : Place) (n : List ℕ) (t : Tree) (xs ys : List Arg) → AllArgs xs ys → (path : List ℕ) → (a b : Around) → Arounds a b → (s r u : State) → States r u
    → ((w : State) → (NamesArePlain a.definitions → Grows r w) → Grown a.definitions s w path) → Ends Things a.definitions s (process_rest p n t xs path a r) (process_rest p n t ys path b u)
process_rests p n t xs ys h path a b i s r u e grow =
    counted_left p n t path xs ys h a b i s r grow (counted p (length xs) a r) (counted p (length ys) b u)
    ((subst (λ z. Twin Same (counted p (length xs)) (counted p z)) (length_alike xs ys h) (counting p (length xs))).at a b i r u e)

rests_alike : (p : Place) (n : List ℕ) (t : Tree) (xs ys : List Arg) → AllArgs xs ys → (one two : List ℕ) → one ≡ two → (a b : Around) → Arounds a b → (s r u : State) → States r u
    → ((w : State) → (NamesArePlain a.definitions → Grows r w) → Grown a.definitions s w one) → Ends Things a.definitions s (process_rest p n t xs one a r) (process_rest p n t ys two b u)
rests_alike p n t xs ys h one two j a b i s r u e grow =
    subst (λ z. Ends Things a.definitions s (process_rest p n t xs one a r) (process_rest p n t ys z b u)) j (process_rests p n t xs ys h one a b i s r u e grow)

-- the state after a call of a process
call_grown : (n : List ℕ) (d : Definitions) (s : State) → (NamesArePlain d → is_plain_name n ≡ true) → is_among n s.scope.called ≡ false
    → (w : State) → (NamesArePlain d → Grows (begun n ((s.scope.path ++ n) ∷ []) s) w) → Grown d s w (s.scope.path ++ n)
call_grown n d s plain fresh w g c path k =
    process_grows n s (begun n ((s.scope.path ++ n) ∷ []) s) w (record w { meant = and_meant w.meant (task_meaning c) }) (plain k) fresh refl refl refl refl (g k) refl refl refl (instances_of c) refl
    (subst (λ z. AllOf z (instances_of c)) path (all_of_path c.path (numbered same_inputs (input_lists c.channels)))) (tasks_once c)

abbrev process_fault : Place → List ℕ → Tree → ℕ → Scope → Option LowerFault
process_fault p n t k x = or_else (again_fault p n x) (arity_fault p k (length (inputs_of t)))

process_calls : (p : Place) (n : List ℕ) (t : Tree) (xs ys : List Arg) → AllArgs xs ys → (a b : Around) → Arounds a b → (NamesArePlain a.definitions → is_plain_name n ≡ true)
    → (s u : State) → States s u → Ends Things a.definitions s (process_call p n t xs a s) (process_call p n t ys b u)
process_calls p n t xs ys h a b r plain s u e =
    unless_then Things a.definitions s u a b (process_fault p n t (length xs) s.scope) (process_fault p n t (length ys) u.scope)
    (begins_call n ((s.scope.path ++ n) ∷ []) >>= λ _. process_rest p n t xs (s.scope.path ++ n)) (begins_call n ((u.scope.path ++ n) ∷ []) >>= λ _. process_rest p n t ys (u.scope.path ++ n))
    (ap (λ z. or_else (fault_if (is_among n z) (TwiceDefined p)) (arity_fault p (length xs) (length (inputs_of t)))) e.scope.called
    ∙ ap (λ z. process_fault p n t z u.scope) (length_alike xs ys h))
    (λ none. rests_alike p n t xs ys h (s.scope.path ++ n) (u.scope.path ++ n) (ap (λ z. z ++ n) e.scope.path) a b r s (begun n ((s.scope.path ++ n) ∷ []) s) (begun n ((u.scope.path ++ n) ∷ []) u)
    (begun_alike n s u ((s.scope.path ++ n) ∷ []) ((u.scope.path ++ n) ∷ []) (ap (λ z. (z ++ n) ∷ []) e.scope.path) e)
    (call_grown n a.definitions s plain (not_again p n s.scope (arity_fault p (length xs) (length (inputs_of t))) none)))

-- ---- calls of workflows

workflow_left : (n : List ℕ) (a b : Around) → Arounds a b → (s r t : State) → (NamesArePlain a.definitions → is_plain_name n ≡ true) → is_among n s.scope.called ≡ false
    → r.scope.path ≡ s.scope.path → r.scope.called ≡ n ∷ s.scope.called → r.paths ≡ s.paths → r.meant.instances ≡ s.meant.instances → (NamesArePlain a.definitions → Grows r t)
    → (m k : Lowered (List Output × State)) → EndsInside n a.definitions t m k → Ends Things a.definitions s (then_by a (called_here n) m) (then_by b (called_here n) k)
workflow_left n a b h s r t plain new path called paths meant g (Ok x) (Ok y) e =
    ends_on Things a.definitions s x.1 (called_here n x.0 a x.1) (called_here n y.0 b y.1) (λ k. workflow_grows n s r t x.1 (plain k) new path called paths meant (g k) (e.2 k)) ((called_alike n x.0 y.0 e.0).at a b h x.1 y.1 e.1)
workflow_left n a b h s r t plain new path called paths meant g (Err i) (Err j) e = e
workflow_left n a b h s r t plain new path called paths meant g (Ok x) (Err j) e = absurd e
workflow_left n a b h s r t plain new path called paths meant g (Err i) (Ok y) e = absurd e

workflow_entered : (p : Place) (n : List ℕ) (t : Tree) (a b : Around) → Arounds a b → (s r : State) → (NamesArePlain a.definitions → is_plain_name n ≡ true) → is_among n s.scope.called ≡ false
    → r.scope.path ≡ s.scope.path → r.scope.called ≡ n ∷ s.scope.called → r.paths ≡ s.paths → r.meant.instances ≡ s.meant.instances
    → (m k : Lowered (List Channel × State)) → Ends AllChannels a.definitions r m k
    → Ends Things a.definitions s (then_by a (called_here n) (then_by a (entered p n t) m)) (then_by b (called_here n) (then_by b (entered p n t) k))
workflow_entered p n t a b h s r plain new path called paths meant (Ok x) (Ok y) e =
    workflow_left n a b h s r x.1 plain new path called paths meant e.2 (a.enter p n t x.0 x.1) (b.enter p n t y.0 y.1) (h.enter p n t x.0 y.0 x.1 y.1 e.0 e.1)
workflow_entered p n t a b h s r plain new path called paths meant (Err i) (Err j) e = e
workflow_entered p n t a b h s r plain new path called paths meant (Ok x) (Err j) e = absurd e
workflow_entered p n t a b h s r plain new path called paths meant (Err i) (Ok y) e = absurd e

workflow_calls : (p : Place) (n : List ℕ) (t : Tree) (xs ys : List Arg) → AllArgs xs ys → (a b : Around) → Arounds a b → (NamesArePlain a.definitions → is_plain_name n ≡ true)
    → (s u : State) → States s u → Ends Things a.definitions s (workflow_call p n t xs a s) (workflow_call p n t ys b u)
workflow_calls p n t xs ys h a b r plain s u e =
    unless_then Things a.definitions s u a b (workflow_fault p n t (length xs) s.scope) (workflow_fault p n t (length ys) u.scope)
    (begins_call n [] >>= λ _. channel_args xs >>= entered p n t >>= called_here n) (begins_call n [] >>= λ _. channel_args ys >>= entered p n t >>= called_here n)
    (ap (λ z. or_else (fault_if (is_among n z) (TwiceDefined p)) (or_else (cycle_fault p n s.scope) (arity_fault p (length xs) (length (take_of t))))) e.scope.called
    ∙ ap (λ z. or_else (again_fault p n u.scope) (or_else (fault_if (is_among n z) (CallCycle p)) (arity_fault p (length xs) (length (take_of t))))) e.scope.within
    ∙ ap (λ z. workflow_fault p n t z u.scope) (length_alike xs ys h))
    (λ none. workflow_entered p n t a b r s (begun n [] s) plain (not_again p n s.scope (or_else (cycle_fault p n s.scope) (arity_fault p (length xs) (length (take_of t)))) none) refl refl (append-nil s.paths) refl
    (channel_args xs a (begun n [] s)) (channel_args ys b (begun n [] u))
    ((channel_args_alike xs ys h).at a b r (begun n [] s) (begun n [] u) (begun_alike n s u [] [] refl e)))

-- ---- all calls by name

abbrev Receivers : Option Receiver → Option Receiver → Type 0
Receivers None None = Unit {0}
Receivers (Some x) (Some y) = Args x.of y.of × AllArgs x.others y.others
Receivers None (Some y) = ⊥
Receivers (Some x) None = ⊥

others_alike : (x y : Arg) → Args x y → (m n : Option Receiver) → Receivers m n → Receivers (and_other x m) (and_other y n)
others_alike x y h None None e = tt
others_alike x y h (Some r) (Some q) e = (e.0, (h, e.1))
others_alike x y h None (Some q) e = absurd e
others_alike x y h (Some r) None e = absurd e

receiver_alike : (l m : Option (Place × List ℕ)) → l ≡ m → (x y : Arg) → Args x y → (xs ys : List Arg) → AllArgs xs ys → (r q : Option Receiver) → Receivers r q
    → Receivers (receiver_or l x xs r) (receiver_or m y ys q)
receiver_alike None None i x y h xs ys hs r q e = (h, hs)
receiver_alike (Some n) (Some o) i x y h xs ys hs r q e = others_alike x y h r q e
receiver_alike None (Some o) i x y h xs ys hs r q e = absurd cc
receiver_alike (Some n) None i x y h xs ys hs r q e = absurd cc

receivers_alike : (xs ys : List Arg) → AllArgs xs ys → Receivers (receiver xs) (receiver ys)
receivers_alike [] [] h = tt
receivers_alike (x ∷ xs) (y ∷ ys) h = receiver_alike x.label y.label h.0.label x y h.0 xs ys h.1 (receiver xs) (receiver ys) (receivers_alike xs ys h.1)
receivers_alike [] (y ∷ ys) h = absurd h
receivers_alike (x ∷ xs) [] h = absurd h

operators_for : (p : Place) (k : OpRow) → Fits k → (m n : Option Receiver) → Receivers m n → Twin Things (operator_for p k m) (operator_for p k n)
operators_for p k f None None h = refusal (WrongArity p)
operators_for p k f (Some x) (Some y) h =
    subst (λ n. Twin Things (operator_call p k (unnamed x.others) (λ r. on_argument p k r x.of x.others)) (operator_call p k n (λ r. on_argument p k r y.of y.others))) (unnamed_alike x.others y.others h.1)
    (operator_calls p k (unnamed x.others) f (λ r. on_argument p k r x.of x.others) (λ r. on_argument p k r y.of y.others) (args_called p k x.of y.of h.0 x.others y.others h.1))
operators_for p k f None (Some y) h = absurd h
operators_for p k f (Some x) None h = absurd h

operators_on : (p : Place) (k : OpRow) → Fits k → (xs ys : List Arg) → AllArgs xs ys → Twin Things (operator_on p k xs) (operator_on p k ys)
operators_on p k f xs ys h = operators_for p k f (receiver xs) (receiver ys) (receivers_alike xs ys h)

calls_alike : (c : Called) (p : Place) (n : List ℕ) (xs ys : List Arg) → AllArgs xs ys → (a b : Around) → Arounds a b → IsKnown a.definitions n c → (s u : State) → States s u
    → Ends Things a.definitions s (call_of c p n xs a s) (call_of c p n ys b u)
calls_alike (a_process t) p n xs ys h a b r k s u e = process_calls p n t xs ys h a b r k s u e
calls_alike (a_workflow t) p n xs ys h a b r k s u e = workflow_calls p n t xs ys h a b r k s u e
calls_alike (an_operator o) p n xs ys h a b r k s u e = (operators_on p o k xs ys h).at a b r s u e
calls_alike a_file p n xs ys h a b r k s u e = (file_calls p xs ys h).at a b r s u e
calls_alike a_function p n xs ys h a b r k s u e = refl
calls_alike unknown p n xs ys h a b r k s u e = refl

pub same_called : (a b : Around) → Arounds a b → (n : List ℕ) → called_by a.definitions a.given.program.titles n ≡ called_by b.definitions b.given.program.titles n
same_called a b h n = ap (λ d. called_by d a.given.program.titles n) h.definitions ∙ ap (λ (z : Program). called_by b.definitions z.titles n) h.program

pub named_calls : (p : Place) (n : List ℕ) (xs ys : List Arg) → AllArgs xs ys → Twin Things (named_call p n xs) (named_call p n ys)
named_calls p n xs ys h = record {
  at = λ a b r s u e.
      subst (λ z. Ends Things a.definitions s (call_of (called_by a.definitions a.given.program.titles n) p n xs a s) (call_of z p n ys b u)) (same_called a b r n)
      (calls_alike (called_by a.definitions a.given.program.titles n) p n xs ys h a b r (all_known a.definitions a.given.program.titles n) s u e);
}
