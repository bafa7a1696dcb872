-- The calls of operators: what they mean and give.
use Rattle.std.specs.Prelude.{ℕ, suc, Bool, true, false, List, [], ◌∷◌, ◌++◌, map, unwrap_or, if◌then◌else◌, Option, Some, None, Ok, Err}
use Rattle.std.specs.List.{flat_map}
use Rattle.nf_value.specs.Plain.{Plain, null}
use Rattle.nf_value.specs.declared.place.Place.{Place}
use Rattle.nf_pattern.specs.Whole.{found_in}
use Rattle.nf_pattern.specs.Wrapped.{wrapped}
use Rattle.nf_names_used.specs.Compare.{is_found}
use Rattle.nf_names_used.specs.Placed.{Placed}
use Rattle.nf_tasks.specs.Evaluation.{Closing, apply_of, branch_of, labels_of}
use Rattle.nf_bag.specs.declared.options.OpOpts.{OpOpts}
use Rattle.nf_bag.specs.declared.rows.Row.{Row}
use Rattle.nf_bag.specs.declared.rows.Row.TheVariants as row
use Rattle.nf_graph.specs.Push.{Push}
use Rattle.nf_graph.specs.Operator.{Operator}
use Rattle.nf_graph.specs.Rows.{if_empty_row, reduce_row}
use Rattle.nf_graph.specs.Row.{operator_of, output_kind}
use Rattle.nf_graph.specs.Answer.{literal_answer, pattern_answer}
use Rattle.nf_graph.specs.OutputKind.{OutputKind}
use Rattle.nf_graph.specs.OutputKind.TheVariants as output
use Rattle.nf_optable.specs.declared.rows.OpRow.{OpRow}
use Rattle.nf_optable.specs.declared.operator.Operator as declared_operator
use Rattle.nf_optable.specs.declared.operator.Operator.TheVariants.{Bag, Arrival}
use Rattle.nf_graph.specs.Meaning.{answered}
use Rattle.nf_meaning.specs.declared.fault.LowerFault.TheVariants.{WrongArity, BadOption}
use Rattle.nf_meaning.specs.Places.{begins_at}
use Rattle.nf_meaning.specs.Things.{Thing, a_value, a_channel, outputs, Channel, Output, are_values}
use Rattle.nf_meaning.specs.Meaning.{ScriptMeaning, ScriptFault, item_fails, operator_fails, nothing_meant}
use Rattle.nf_meaning.specs.Walk.{Walk, ◌>>=◌, gives, refused, means, with_scope, assigning}
use Rattle.nf_meaning.specs.Sizes.{counted}
use Rattle.nf_meaning.specs.Expressions.{channel_wanted}
use Rattle.nf_meaning.specs.Arguments.{Arg, unnamed, channel_arg}
use Rattle.nf_meaning.specs.Taken.{takes, ports_of, Taken, nothing_taken, take_args}

-- ---- what the operator makes of its channels

abbrev pub without_closure : Option (List ℕ) → Option Plain → Plain → Placed Plain
without_closure (Some re) literal x = Ok (pattern_answer (λ t. is_found (found_in (wrapped re) t)) x)
without_closure None (Some v) x = Ok (literal_answer v x)
without_closure None None x = Ok x

abbrev pub closure_answer : Row → Closing → Plain → Placed Plain
closure_answer row.Branch c x = branch_of c (x ∷ [])
closure_answer row.MultiMap c x = labels_of c (x ∷ [])
closure_answer r c x = apply_of c (x ∷ [])

abbrev pub answer_by : Row → Option Closing → Taken → Plain → Placed Plain
answer_by r (Some c) t x = closure_answer r c x
answer_by r None t x = without_closure t.pattern t.literal x

-- the answer on an item: that of the closure, or else the item itself
abbrev pub answer : Row → Taken → Plain → Placed Plain
answer r t x = answer_by r t.closing t x

abbrev pub operator_with : Row → OpOpts → Option Plain → Operator
operator_with row.IfEmpty o start = if_empty_row (unwrap_or start null)
operator_with row.Reduce o start = reduce_row o.total start
operator_with r o start = operator_of r o

-- a call of an operator: the place of its name, its row, what it took, and all channels that it reads
pub record Call : Type 0 where
  pub place : Place
  pub row : Row
  pub taken : Taken
  pub channels : List Channel

abbrev pub operator_in : Call → Operator
operator_in c = operator_with c.row c.taken.options c.taken.start

-- the items of channels, each with the place of its channel among them
abbrev pub delivered : ℕ → List Channel → List (ℕ × Plain)
delivered k [] = []
delivered k (c ∷ cs) = map (λ x. (k, x)) c.bag ++ delivered (suc k) cs

abbrev pub pushes_of : Call → List Push
pushes_of c = flat_map (λ d. answered d.0 d.1 (answer c.row c.taken d.1)) (delivered 0 c.channels)

abbrev pub item_fault : Plain → Placed Plain → List ScriptFault
item_fault x (Ok v) = []
item_fault x (Err f) = item_fails x f ∷ []

abbrev pub item_faults : Call → List ScriptFault
item_faults c = flat_map (λ d. item_fault d.1 (answer c.row c.taken d.1)) (delivered 0 c.channels)

abbrev pub operator_faults : Call → List ScriptFault
operator_faults c = map (operator_fails c.place) ((operator_in c).faults (pushes_of c))

-- what a `view` prints: the answers
abbrev pub printed : Row → List Push → List (List Plain)
printed row.View q = map (λ x. x.answer) q ∷ []
printed r q = []

abbrev pub call_meaning : Call → ScriptMeaning
call_meaning c = record nothing_meant {
  views = printed c.row (pushes_of c);
  deliveries = map (λ d. d.bag) c.channels;
  faults = operator_faults c ++ item_faults c;
}

-- ---- what it gives

abbrev pub is_value_kind : OutputKind → List Channel → Bool
is_value_kind output.Value cs = true
is_value_kind output.Queue cs = false
is_value_kind output.AsInputs cs = are_values cs

abbrev pub given_at : Call → ℕ → Channel
given_at c k =
    record { is_value = is_value_kind (output_kind c.row) c.channels; bag = (operator_in c).items (pushes_of c) k }

-- an output for each label
abbrev pub labelled : Call → ℕ → List (List ℕ) → List Output
labelled c k [] = []
labelled c k (n ∷ ns) = record { label = Some n; channel = given_at c k } ∷ labelled c (suc k) ns

abbrev pub result_of : Row → Call → Thing
result_of row.Branch c = outputs (labelled c 0 c.taken.labels)
result_of row.MultiMap c = outputs (labelled c 0 c.taken.labels)
result_of r c = a_channel (given_at c 0)

abbrev pub applied : Call → Walk Thing
applied c = means (call_meaning c) >>= λ _. gives (result_of c.row c)

-- ---- `set`

-- a `set` of its own for each output
abbrev pub set_channel : Place → Taken → Channel → Walk Channel
set_channel p t c =
    means (call_meaning (record { place = p; row = row.Set; taken = t; channels = c ∷ [] })) >>= λ _.
    gives (given_at (record { place = p; row = row.Set; taken = t; channels = c ∷ [] }) 0)

abbrev pub set_outputs : Place → Taken → List Output → Walk (List Output)
set_outputs p t [] = gives []
set_outputs p t (o ∷ os) =
    set_channel p t o.channel >>= λ c. set_outputs p t os >>= λ more.
    gives (record { label = o.label; channel = c } ∷ more)

abbrev pub counted_all : Place → List Output → Walk (Unit {0})
counted_all p [] = gives tt
counted_all p (o ∷ os) = counted p 1 >>= λ _. counted_all p os

abbrev pub named_so : List ℕ → Thing → Walk Thing
named_so n t = with_scope (assigning n t) >>= λ _. gives t

-- binds a name to a channel, or to all that a call gives
abbrev pub set_thing : Place → OpRow → List Arg → Thing → Place → Walk Thing
set_thing p k xs (outputs os) q =
    counted_all p os >>= λ _. take_args k row.Set xs nothing_taken >>= λ t. set_outputs p t os >>= λ more.
    named_so t.word (outputs more)
set_thing p k xs (a_channel c) q =
    counted p 1 >>= λ _. take_args k row.Set xs nothing_taken >>= λ t. set_channel p t c >>= λ d.
    named_so t.word (a_channel d)
set_thing p k xs (a_value v) q =
    counted p 1 >>= λ _. channel_wanted q (a_value v) >>= λ c. take_args k row.Set xs nothing_taken >>= λ t.
    set_channel p t c >>= λ d. named_so t.word (a_channel d)

-- ---- calls

abbrev pub with_channel : Place → OpRow → Row → List Arg → Channel → Walk Thing
with_channel p k r xs c =
    take_args k r xs nothing_taken >>= λ t.
    applied (record { place = p; row = r; taken = t; channels = c ∷ t.channels })

-- on what was made before, as `ch.view()`. What is no channel is a fault at the operator's name
abbrev pub on_thing : Place → OpRow → Row → Thing → List Arg → Walk Thing
on_thing p k row.Set t xs = set_thing p k xs t p
on_thing p k r t xs = channel_wanted p t >>= λ c. counted p (ports_of k (unnamed xs)) >>= λ _. with_channel p k r xs c

-- on the first argument, as `view(ch)`
abbrev pub on_argument : Place → OpRow → Row → Arg → List Arg → Walk Thing
on_argument p k row.Set x xs = x.thing >>= λ t. set_thing p k xs t (begins_at x.tree)
on_argument p k r x xs = counted p (ports_of k (unnamed xs)) >>= λ _. channel_arg x >>= with_channel p k r xs

-- the operator that a row is of; one whose result is the order of arrival means nothing
abbrev pub by_operator : Place → declared_operator.Operator → (Row → Walk Thing) → Walk Thing
by_operator p (Bag r) w = w r
by_operator p (Arrival o) w = refused (BadOption p)

-- a call with so many arguments without a name, of the operator whose name stands at this place
abbrev pub operator_call : Place → OpRow → ℕ → (Row → Walk Thing) → Walk Thing
operator_call p k n w = if takes k n then by_operator p k.operator w else refused (WrongArity p)
