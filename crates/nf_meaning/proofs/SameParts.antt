-- The parts of a body go the same way in two runs, wherever they stand.
use Rattle.std.proofs.Common.{◌≡◌, ℕ, zero, suc, ◌-◌, List, [], ◌∷◌, ◌++◌, length, drop, Bool, true, false, Option, Some, None, Ok, pos, negsuc, refl, ap, subst, if◌then◌else◌}
use Rattle.std.specs.Prelude.{codes, slice_get, ◌==◌}
use Rattle.std.specs.Str.{bytes_eq}
use Rattle.nf_value.specs.Plain.{Plain, null, truth, int, text, file, list, table}
use Rattle.nf_value.specs.declared.place.Place.{Place}
use Rattle.nf_value.specs.declared.fault.EvalKind.TheVariants.{Arity}
use Rattle.nf_value.specs.Truth.{truth_of}
use Rattle.nf_names_used.specs.Outcome.{limited}
use Rattle.nf_names_used.specs.Lists.{list_of}
use Rattle.nf_names_used.specs.Args.{items_of}
use Rattle.nf_ast.specs.declared.operators.InfixOperator.{InfixOperator}
use Rattle.nf_ast.specs.declared.operators.InfixOperator.TheVariants as infix_operator
use Rattle.nf_ast.specs.Tree as tree
use Rattle.nf_ast.specs.Tree.{Tree, empty, cons, place_of}
use Rattle.nf_names_used.specs.Placed.{at_place, fault}
use Rattle.nf_names_used.specs.Body.{name_in, names_in, paired, split}
use Rattle.nf_tasks.specs.Evaluation.{opening}
use Rattle.nf_optable.specs.declared.rows.OpRow.{OpRow}
use Rattle.nf_optable.specs.Rows.{operator_rows, row_of}
use Rattle.nf_meaning.specs.declared.fault.LowerFault.{LowerFault}
use Rattle.nf_meaning.specs.declared.fault.LowerFault.TheVariants.{UnknownName, BadOption}
use Rattle.nf_meaning.specs.Lowered.{known}
use Rattle.nf_meaning.specs.Places.{begins_at}
use Rattle.nf_meaning.specs.Things.{Thing, a_value, a_channel, outputs, Channel, Output, channels_of, has_label, output_named, widened, thing_named}
use Rattle.nf_meaning.specs.Names.{Called, a_process, a_workflow, a_function, a_file, an_operator, unknown, called_by, is_channel_word}
use Rattle.nf_meaning.specs.Walk.{Walk, Around, Scope, State, ◌>>=◌, gives, lifted, unless_fault, wanted, with_scope, things_in, defining, assigning, entering, leaving, in_braces}
use Rattle.nf_meaning.specs.Expressions.{is_leading, value_of, value_wanted}
use Rattle.nf_meaning.specs.Arguments.{Arg, unnamed}
use Rattle.nf_meaning.specs.Operators.{on_thing, operator_call}
use Rattle.nf_meaning.specs.Workflow.{Part, member_of, method_by, method_of, output_at, index_of, list_made, out_of, free_member, name_member, free_method, name_method, name_thing, head_of, name_head, by_kind, argument_of, already, done_with, expression, nothing_there, statement, of_name, of_property, of_call, of_closed, flowing, of_binary, again_fault, new_names, bind_all, define_one, define_each, chosen, logged, part_of}
use Rattle.nf_meaning.proofs.Widened.{Alike, AllAlike, is_list, lists_alike, list_items_alike, length_alike as same_length, made_alike}
use Rattle.nf_meaning.proofs.Twins.{Channels, AllChannels, Outputs, Things, Named, Scopes, States, Ends, Arounds, Twin, Same, on, on_same, given, given_same, refusal, lifting, judging, choosing, in_scope, scope_here}
use Rattle.nf_meaning.proofs.SameNames.{MaybeThings, found, all_things, leading_alike}
use Rattle.nf_meaning.proofs.SameArgs.{Args, AllArgs, valuing, reading, value_due, channel_due, no_file_due, unnamed_alike, source_calls}
use Rattle.nf_meaning.proofs.SameCalls.{operator_calls, row_fits, MaybeFits, things_called, assigned_alike, assigned_stays, named_calls, same_called}

-- ---- things

abbrev MaybeChannels : Option Channel → Option Channel → Type 0
MaybeChannels None None = Unit {0}
MaybeChannels (Some c) (Some d) = Channels c d
MaybeChannels None (Some d) = ⊥
MaybeChannels (Some c) None = ⊥

channel_if : (c d : Bool) (x y : Channel) (m n : Option Channel) → c ≡ d → Channels x y → MaybeChannels m n → MaybeChannels (if c then Some x else m) (if d then Some y else n)
channel_if true true x y m n e h k = h
channel_if false false x y m n e h k = k
channel_if true false x y m n e h k = absurd cc
channel_if false true x y m n e h k = absurd cc

output_found : (n : List ℕ) (os qs : List Output) → Outputs os qs → MaybeChannels (output_named n os) (output_named n qs)
output_found n [] [] h = tt
output_found n (o ∷ os) (q ∷ qs) h = channel_if (has_label n o.label) (has_label n q.label) o.channel q.channel _ _ (ap (has_label n) h.0.label) h.0.channel (output_found n os qs h.1)
output_found n [] (q ∷ qs) h = absurd h
output_found n (o ∷ os) [] h = absurd h

channel_there : (f : LowerFault) (m n : Option Channel) → MaybeChannels m n → Twin Things (wanted m f >>= λ c. gives (a_channel c)) (wanted n f >>= λ c. gives (a_channel c))
channel_there f None None h = refusal f
channel_there f (Some c) (Some d) h = given (a_channel c) (a_channel d) h
channel_there f None (Some d) h = absurd h
channel_there f (Some c) None h = absurd h

members : (q p : Place) (n : List ℕ) (t u : Thing) → Things t u → Twin Things (member_of q p n t) (member_of q p n u)
members q p n (outputs os) (outputs qs) h = channel_there (UnknownName p) (output_named n os) (output_named n qs) (output_found n os qs h)
members q p n (a_channel c) (a_channel d) h = refusal (BadOption p)
members q p n (a_value v) (a_value w) h = refusal (BadOption q)
members q p n (a_value v) (a_channel d) h = absurd h
members q p n (a_value v) (outputs qs) h = absurd h
members q p n (a_channel c) (a_value w) h = absurd h
members q p n (a_channel c) (outputs qs) h = absurd h
members q p n (outputs os) (a_value w) h = absurd h
members q p n (outputs os) (a_channel d) h = absurd h

methods_by : (k : Option OpRow) → MaybeFits k → (p : Place) (t u : Thing) → Things t u → (xs ys : List Arg) → AllArgs xs ys → Twin Things (method_by k p t xs) (method_by k p u ys)
methods_by None f p t u e xs ys h = refusal (UnknownName p)
methods_by (Some k) f p t u e xs ys h =
    subst (λ n. Twin Things (method_by (Some k) p t xs) (operator_call p k n (λ r. on_thing p k r u ys))) (unnamed_alike xs ys h)
    (operator_calls p k (unnamed xs) f (λ r. on_thing p k r t xs) (λ r. on_thing p k r u ys) (things_called p k xs ys h t u e))

methods : (q p : Place) (n : List ℕ) (xs ys : List Arg) → AllArgs xs ys → (t u : Thing) → Things t u → Twin Things (method_of q p n xs t) (method_of q p n ys u)
methods q p n xs ys h (outputs os) (outputs qs) e = methods_by (row_of n operator_rows) (row_fits n) p (outputs os) (outputs qs) e xs ys h
methods q p n xs ys h (a_channel c) (a_channel d) e = methods_by (row_of n operator_rows) (row_fits n) p (a_channel c) (a_channel d) e xs ys h
methods q p n xs ys h (a_value v) (a_value w) e = refusal (BadOption q)
methods q p n xs ys h (a_value v) (a_channel d) e = absurd e
methods q p n xs ys h (a_value v) (outputs qs) e = absurd e
methods q p n xs ys h (a_channel c) (a_value w) e = absurd e
methods q p n xs ys h (a_channel c) (outputs qs) e = absurd e
methods q p n xs ys h (outputs os) (a_value w) e = absurd e
methods q p n xs ys h (outputs os) (a_channel d) e = absurd e

all_channels : (os qs : List Output) → Outputs os qs → AllChannels (channels_of os) (channels_of qs)
all_channels [] [] h = tt
all_channels (o ∷ os) (q ∷ qs) h = (h.0.channel, all_channels os qs h.1)
all_channels [] (q ∷ qs) h = absurd h
all_channels (o ∷ os) [] h = absurd h

channel_at : (cs ds : List Channel) → AllChannels cs ds → (k : ℕ) → MaybeChannels (slice_get cs k) (slice_get ds k)
channel_at [] [] h k = tt
channel_at (c ∷ cs) (d ∷ ds) h zero = h.0
channel_at (c ∷ cs) (d ∷ ds) h (suc k) = channel_at cs ds h.1 k
channel_at [] (d ∷ ds) h k = absurd h
channel_at (c ∷ cs) [] h k = absurd h

outputs_at : (p q : Place) (v : Plain) (cs ds : List Channel) → AllChannels cs ds → Twin Things (output_at p q v cs) (output_at p q v ds)
outputs_at p q (int (pos k)) cs ds h = channel_there (UnknownName p) (slice_get cs k) (slice_get ds k) (channel_at cs ds h k)
outputs_at p q (int (negsuc k)) cs ds h = refusal (UnknownName p)
outputs_at p q null cs ds h = refusal (BadOption q)
outputs_at p q (truth b) cs ds h = refusal (BadOption q)
outputs_at p q (text t) cs ds h = refusal (BadOption q)
outputs_at p q (file n d l) cs ds h = refusal (BadOption q)
outputs_at p q (list vs) cs ds h = refusal (BadOption q)
outputs_at p q (table ps) cs ds h = refusal (BadOption q)

indexes : (q p r : Place) (i : Tree) (t u : Thing) → Things t u → Twin Things (index_of q p r (value_of i) t) (index_of q p r (value_of i) u)
indexes q p r i (outputs os) (outputs qs) h = on_same (valuing i) (λ v. outputs_at p r v (channels_of os) (channels_of qs) (all_channels os qs h))
indexes q p r i (a_channel c) (a_channel d) h = refusal (BadOption p)
indexes q p r i (a_value v) (a_value w) h = refusal (BadOption q)
indexes q p r i (a_value v) (a_channel d) h = absurd h
indexes q p r i (a_value v) (outputs qs) h = absurd h
indexes q p r i (a_channel c) (a_value w) h = absurd h
indexes q p r i (a_channel c) (outputs qs) h = absurd h
indexes q p r i (outputs os) (a_value w) h = absurd h
indexes q p r i (outputs os) (a_channel d) h = absurd h

lists_made : (p : Place) (vs ws : List Plain) → AllAlike vs ws → Twin Things (list_made p vs) (list_made p ws)
lists_made p vs ws h =
    on_same (subst (λ z. Twin Same (lifted (known (at_place p (limited (widened (list_of vs)))))) (lifted (known (at_place p (limited z))))) (made_alike vs ws h)
    (lifting (known (at_place p (limited (widened (list_of vs)))))))
    (λ x. given (a_value (list_of vs)) (a_value (list_of ws)) (made_alike vs ws h))

-- ---- names

outs_of : (p : Place) (m n : Option Thing) → MaybeThings m n → Twin Things (out_of p m) (out_of p n)
outs_of p (Some t) (Some u) h = given t u h
outs_of p None None h = refusal (UnknownName p)
outs_of p None (Some u) h = absurd h
outs_of p (Some t) None h = absurd h

free_members : (c : Bool) (x y : Scope) → Scopes x y → (q : Place) (m : List ℕ) (p : Place) (n : List ℕ) → Twin Things (free_member c x q m p n) (free_member c y q m p n)
free_members true x y e q m p n = refusal (BadOption p)
free_members false x y e q m p n = choosing (bytes_eq n (codes "out")) (outs_of q (thing_named m x.calls) (thing_named m y.calls) (found m x.calls y.calls e.calls)) (refusal (BadOption p))

name_members : (s t : Option Thing) → MaybeThings s t → (x y : Scope) → Scopes x y → (q : Place) (m : List ℕ) (p : Place) (n : List ℕ)
    → Twin Things (name_member s x q m p n) (name_member t y q m p n)
name_members (Some t) (Some u) h x y e q m p n = members q p n t u h
name_members None None h x y e q m p n = free_members (is_channel_word m) x y e q m p n
name_members None (Some u) h x y e q m p n = absurd h
name_members (Some t) None h x y e q m p n = absurd h

free_methods : (c : Bool) (q p : Place) (n : List ℕ) (xs ys : List Arg) → AllArgs xs ys → Twin Things (free_method c q p n xs) (free_method c q p n ys)
free_methods true q p n xs ys h = source_calls p n xs ys h
free_methods false q p n xs ys h = refusal (BadOption q)

name_methods : (s t : Option Thing) → MaybeThings s t → (q : Place) (m : List ℕ) (p : Place) (n : List ℕ) (xs ys : List Arg) → AllArgs xs ys
    → Twin Things (name_method s q m p n xs) (name_method t q m p n ys)
name_methods (Some t) (Some u) e q m p n xs ys h = methods q p n xs ys h t u e
name_methods None None e q m p n xs ys h = free_methods (is_channel_word m) q p n xs ys h
name_methods None (Some u) e q m p n xs ys h = absurd e
name_methods (Some t) None e q m p n xs ys h = absurd e

name_things : (s t : Option Thing) → MaybeThings s t → (p : Place) → Twin Things (name_thing s p) (name_thing t p)
name_things (Some t) (Some u) h p = given t u h
name_things None None h p = refusal (BadOption p)
name_things None (Some u) h p = absurd h
name_things (Some t) None h p = absurd h

heads_of : (c : Called) (p : Place) (n : List ℕ) (w v : Walk Thing) → Twin Things w v → Twin Things (head_of c p n w) (head_of c p n v)
heads_of (a_process t) p n w v h = named_calls p n [] [] tt
heads_of (a_workflow t) p n w v h = named_calls p n [] [] tt
heads_of a_function p n w v h = h
heads_of a_file p n w v h = h
heads_of (an_operator r) p n w v h = h
heads_of unknown p n w v h = h

name_heads : (s t : Option Thing) → MaybeThings s t → (c : Called) (p : Place) (n : List ℕ) (w v : Walk Thing) → Twin Things w v → Twin Things (name_head s c p n w) (name_head t c p n v)
name_heads (Some t) (Some u) e c p n w v h = h
name_heads None None e c p n w v h = heads_of c p n w v h
name_heads None (Some u) e c p n w v h = absurd e
name_heads (Some t) None e c p n w v h = absurd e

-- ---- parts

kinds : (t : Tree) (w v : Walk Thing) → Twin Things w v → Twin Things (by_kind t w) (by_kind t v)
kinds t w v k = record { at = λ a b h s u e. by a b h s u e (is_leading a s.scope t) (is_leading b u.scope t) (leading_alike a b h s.scope u.scope e.scope t) }
  where
    by : (a b : Around) → Arounds a b → (s u : State) → States s u → (c d : Bool) → c ≡ d
        → Ends Things a.definitions s (if c then w a s else (value_of t >>= λ x. gives (a_value x)) a s) (if d then v b u else (value_of t >>= λ x. gives (a_value x)) b u)
    by a b h s u e true true i = k.at a b h s u e
    by a b h s u e false false i = (on_same (valuing t) (λ x. given (a_value x) (a_value x) refl)).at a b h s u e
    by a b h s u e true false i = absurd cc
    by a b h s u e false true i = absurd cc

pub record Parts (p q : Part) : Type 0 where
  pub thing : Twin Things p.thing q.thing
  pub head : Twin Things p.head q.head
  pub member : (x : Place) (n : List ℕ) → Twin Things (p.member x n) (q.member x n)
  pub method : (x : Place) (n : List ℕ) (xs ys : List Arg) → AllArgs xs ys → Twin Things (p.method x n xs) (q.method x n ys)
  pub called : (x : Place) (xs ys : List Arg) → AllArgs xs ys → Twin Things (p.called x xs) (q.called x ys)
  pub closed : (x : Place) (xs ys : List Arg) → AllArgs xs ys → Twin Things (p.closed x xs) (q.closed x ys)
  pub named : (xs ys : List Arg) → AllArgs xs ys → Twin Things (p.named xs) (q.named ys)
  pub piped : (x y : Arg) → Args x y → Twin Things (p.piped x) (q.piped y)
  pub piped_closed : (x y : Arg) → Args x y → (xs ys : List Arg) → AllArgs xs ys → Twin Things (p.piped_closed x xs) (q.piped_closed y ys)
  pub argument : Args p.argument q.argument
  pub arguments : AllArgs p.arguments q.arguments
  pub items : Twin AllAlike p.items q.items
  pub done : Twin Same p.done q.done
  pub body : Twin Same p.body q.body

dones : (p : Place) (w v : Walk Thing) → Twin Things w v → Twin Same (done_with p w) (done_with p v)
dones p w v h = on h (no_file_due p)

arguments_of : (t : Tree) (w v : Walk Thing) → Twin Things w v → Args (argument_of t w) (argument_of t v)
arguments_of t w v h = record { label = refl; tree = refl; thing = h }

expressions : (t : Tree) (w v : Walk Thing) → Twin Things w v → Parts (expression t w) (expression t v)
expressions t w v h = record {
  thing = kinds t w v h;
  head = kinds t w v h;
  member = λ x n. on (kinds t w v h) (members (begins_at t) x n);
  method = λ x n xs ys k. on (kinds t w v h) (methods (begins_at t) x n xs ys k);
  called = λ x xs ys k. refusal (BadOption x);
  closed = λ x xs ys k. refusal (BadOption x);
  named = λ xs ys k. refusal (BadOption (begins_at t));
  piped = λ x y k. refusal (BadOption (begins_at t));
  piped_closed = λ x y k xs ys l. refusal (BadOption (begins_at t));
  argument = arguments_of t _ _ (kinds t w v h);
  arguments = tt;
  items = given [] [] tt;
  done = dones (begins_at t) _ _ (kinds t w v h);
  body = given_same tt;
}

nothing_parts : Parts nothing_there nothing_there
nothing_parts =
    let e = expressions empty (gives (a_value null)) (gives (a_value null)) (given (a_value null) (a_value null) refl) in
    record {
      thing = e.thing;
      head = e.head;
      member = e.member;
      method = e.method;
      called = e.called;
      closed = e.closed;
      named = e.named;
      piped = e.piped;
      piped_closed = e.piped_closed;
      argument = e.argument;
      arguments = tt;
      items = given [] [] tt;
      done = given_same tt;
      body = given_same tt;
    }

statement_parts : (w v : Walk (Unit {0})) → Twin Same w v → Parts (statement w) (statement v)
statement_parts w v h =
    record {
      thing = nothing_parts.thing;
      head = nothing_parts.head;
      member = nothing_parts.member;
      method = nothing_parts.method;
      called = nothing_parts.called;
      closed = nothing_parts.closed;
      named = nothing_parts.named;
      piped = nothing_parts.piped;
      piped_closed = nothing_parts.piped_closed;
      argument = nothing_parts.argument;
      arguments = tt;
      items = given [] [] tt;
      done = h;
      body = given_same tt;
    }

-- what a name stands for in the scope at hand
here : (n : List ℕ) (x y : Scope) → Scopes x y → MaybeThings (thing_named n (things_in x)) (thing_named n (things_in y))
here n x y e = found n (things_in x) (things_in y) (all_things x y e)

this_name : (p : Place) (n : List ℕ) → Twin Things (λ a s. name_thing (thing_named n (things_in s.scope)) p a s) (λ a s. name_thing (thing_named n (things_in s.scope)) p a s)
this_name p n = record { at = λ a b h s u e. (name_things (thing_named n (things_in s.scope)) (thing_named n (things_in u.scope)) (here n s.scope u.scope e.scope) p).at a b h s u e }

this_head : (p : Place) (n : List ℕ) → Twin Things (of_name p n).head (of_name p n).head
this_head p n = record {
  at = λ a b h s u e.
      subst (λ z. Ends Things a.definitions s ((of_name p n).head a s) (name_head (thing_named n (things_in u.scope)) z p n (by_kind (tree.name p n) (name_thing (thing_named n (things_in u.scope)) p)) b u)) (same_called a b h n)
      ((name_heads (thing_named n (things_in s.scope)) (thing_named n (things_in u.scope)) (here n s.scope u.scope e.scope) (called_by a.definitions a.given.program.titles n) p n
      (by_kind (tree.name p n) (name_thing (thing_named n (things_in s.scope)) p)) (by_kind (tree.name p n) (name_thing (thing_named n (things_in u.scope)) p))
      (kinds (tree.name p n) (name_thing (thing_named n (things_in s.scope)) p) (name_thing (thing_named n (things_in u.scope)) p)
      (name_things (thing_named n (things_in s.scope)) (thing_named n (things_in u.scope)) (here n s.scope u.scope e.scope) p))).at a b h s u e);
}

names_part : (p : Place) (n : List ℕ) → Parts (of_name p n) (of_name p n)
names_part p n =
    let e = expressions (tree.name p n) _ _ (this_name p n) in
    record {
      thing = e.thing;
      head = this_head p n;
      member = λ q m. record {
        at = λ a b h s u i.
            (name_members (thing_named n (things_in s.scope)) (thing_named n (things_in u.scope)) (here n s.scope u.scope i.scope) s.scope u.scope i.scope p n q m).at a b h s u i;
      };
      method = λ q m xs ys k. record {
        at = λ a b h s u i.
            (name_methods (thing_named n (things_in s.scope)) (thing_named n (things_in u.scope)) (here n s.scope u.scope i.scope) p n q m xs ys k).at a b h s u i;
      };
      called = λ q xs ys k. named_calls p n xs ys k;
      closed = λ q xs ys k. named_calls p n xs ys k;
      named = λ xs ys k. named_calls p n xs ys k;
      piped = λ x y k. named_calls p n (x ∷ []) (y ∷ []) (k, tt);
      piped_closed = λ x y k xs ys l. named_calls p n (x ∷ xs) (y ∷ ys) (k, l);
      argument = e.argument;
      arguments = e.arguments;
      items = e.items;
      done = e.done;
      body = e.body;
    }

property_parts : (t : Tree) (p : Part) → Parts p p → (q : Place) (n : List ℕ) → Parts (of_property t p q n) (of_property t p q n)
property_parts t p h q n =
    let e = expressions t (p.member q n) (p.member q n) (h.member q n) in
    record {
      thing = e.thing;
      head = e.head;
      member = e.member;
      method = e.method;
      called = λ x xs ys k. h.method q n xs ys k;
      closed = λ x xs ys k. h.method q n xs ys k;
      named = e.named;
      piped = e.piped;
      piped_closed = e.piped_closed;
      argument = e.argument;
      arguments = e.arguments;
      items = e.items;
      done = e.done;
      body = e.body;
    }

both_args : (xs ys zs ws : List Arg) → AllArgs xs ys → AllArgs zs ws → AllArgs (xs ++ zs) (ys ++ ws)
both_args [] [] zs ws h k = k
both_args (x ∷ xs) (y ∷ ys) zs ws h k = (h.0, both_args xs ys zs ws h.1 k)
both_args [] (y ∷ ys) zs ws h k = absurd h
both_args (x ∷ xs) [] zs ws h k = absurd h

call_parts : (t : Tree) (q : Place) (f : Part) (xs : List Arg) → Parts f f → AllArgs xs xs → Parts (of_call t q f xs) (of_call t q f xs)
call_parts t q f xs h k =
    let e = expressions t (f.called q xs) (f.called q xs) (h.called q xs xs k) in
    record {
      thing = e.thing;
      head = e.head;
      member = e.member;
      method = e.method;
      called = e.called;
      closed = λ x ys zs l. h.called q (xs ++ ys) (xs ++ zs) (both_args xs xs ys zs k l);
      named = e.named;
      piped = λ x y l. h.named (x ∷ xs) (y ∷ xs) (l, k);
      piped_closed = λ x y l ys zs m. h.named (x ∷ xs ++ ys) (y ∷ xs ++ zs) (l, both_args xs xs ys zs k m);
      argument = e.argument;
      arguments = e.arguments;
      items = e.items;
      done = e.done;
      body = e.body;
    }

closed_parts : (t : Tree) (q : Place) (f : Part) (c : Arg) → Parts f f → Args c c → Parts (of_closed t q f c) (of_closed t q f c)
closed_parts t q f c h k =
    let e = expressions t (f.closed q (c ∷ [])) (f.closed q (c ∷ [])) (h.closed q (c ∷ []) (c ∷ []) (k, tt)) in
    record {
      thing = e.thing;
      head = e.head;
      member = e.member;
      method = e.method;
      called = e.called;
      closed = e.closed;
      named = e.named;
      piped = λ x y l. h.piped_closed x y l (c ∷ []) (c ∷ []) (k, tt);
      piped_closed = e.piped_closed;
      argument = e.argument;
      arguments = e.arguments;
      items = e.items;
      done = e.done;
      body = e.body;
    }

flows : (p : Place) (t u : Thing) → Things t u → Twin Things (flowing p t) (flowing p u)
flows p (a_value v) (a_value w) h = on (channel_due p (a_value v) (a_value w) h) (λ c d k. given (a_channel c) (a_channel d) k)
flows p (a_channel c) (a_channel d) h = given (a_channel c) (a_channel d) h
flows p (outputs os) (outputs qs) h = given (outputs os) (outputs qs) h
flows p (a_value v) (a_channel d) h = absurd h
flows p (a_value v) (outputs qs) h = absurd h
flows p (a_channel c) (a_value w) h = absurd h
flows p (a_channel c) (outputs qs) h = absurd h
flows p (outputs os) (a_value w) h = absurd h
flows p (outputs os) (a_channel d) h = absurd h

binary_parts : (k : InfixOperator) (t left : Tree) (a b : Part) → Parts a a → Parts b b → Parts (of_binary k t left a b) (of_binary k t left a b)
binary_parts infix_operator.Pipe t left a b h k =
    expressions t _ _ (on (on h.head (flows (begins_at left))) (λ x y e. k.piped (already left x) (already left y) (record { label = refl; tree = refl; thing = given x y e })))
binary_parts _ t left a b h k = expressions t _ _ (given (a_value null) (a_value null) refl)

-- ---- statements

names_new : (before : List (List ℕ)) (ns : Tree) → Twin Same (new_names before ns) (new_names before ns)
names_new before (cons n more) = on_same (judging (again_fault before n)) (λ x. names_new (name_in n ∷ before) more)
names_new before _ = given_same tt

defined_alike : (n : List ℕ) (t u : Thing) → Things t u → Twin Same (with_scope (defining n t)) (with_scope (defining n u))
defined_alike n t u h = in_scope (defining n t) (defining n u)
    (λ x y e. record { path = e.path; within = e.within; own = ((refl, h), e.own); defined = ap (λ z. n ∷ z) e.defined; names = e.names; called = e.called; calls = e.calls })
    (λ x. (refl, refl))

abbrev Bounds : List (List ℕ × Plain) → List (List ℕ × Plain) → Type 0
Bounds [] [] = Unit {0}
Bounds (b ∷ bs) (c ∷ cs) = ((b.0 ≡ c.0) × Alike b.1 c.1) × Bounds bs cs
Bounds [] (c ∷ cs) = ⊥
Bounds (b ∷ bs) [] = ⊥

all_bound : (bs cs : List (List ℕ × Plain)) → Bounds bs cs → Twin Same (bind_all bs) (bind_all cs)
all_bound [] [] h = given_same tt
all_bound (b ∷ bs) (c ∷ cs) h =
    on_same (subst (λ n. Twin Same (with_scope (defining b.0 (a_value b.1))) (with_scope (defining n (a_value c.1)))) h.0.0 (defined_alike b.0 (a_value b.1) (a_value c.1) h.0.1))
    (λ x. all_bound bs cs h.1)
all_bound [] (c ∷ cs) h = absurd h
all_bound (b ∷ bs) [] h = absurd h

pairs_alike : (ns : List (List ℕ)) (vs ws : List Plain) → AllAlike vs ws → Bounds (paired ns vs) (paired ns ws)
pairs_alike [] vs ws h = tt
pairs_alike (n ∷ ns) [] [] h = tt
pairs_alike (n ∷ ns) (v ∷ vs) (w ∷ ws) h = ((refl, h.0), pairs_alike ns vs ws h.1)
pairs_alike (n ∷ ns) [] (w ∷ ws) h = absurd h
pairs_alike (n ∷ ns) (v ∷ vs) [] h = absurd h

split_if : (c d : Bool) → c ≡ d → (p : Place) (bs cs : List (List ℕ × Plain)) → Bounds bs cs
    → Twin Bounds (lifted (known (if c then Ok bs else fault Arity p))) (lifted (known (if d then Ok cs else fault Arity p)))
split_if true true e p bs cs h = given bs cs h
split_if false false e p bs cs h = refusal _
split_if true false e p bs cs h = absurd cc
split_if false true e p bs cs h = absurd cc

split_lists : (p : Place) (ns : List (List ℕ)) (v w : Plain) → Alike v w → is_list v ≡ is_list w → Twin Bounds (lifted (known (split p ns v))) (lifted (known (split p ns w)))
split_lists p ns (list vs) (list ws) e h =
    split_if (length ns == length (items_of vs)) (length ns == length (items_of ws)) (ap (λ k. length ns == k) (same_length (items_of vs) (items_of ws) (list_items_alike vs ws e)))
    p (paired ns (items_of vs)) (paired ns (items_of ws)) (pairs_alike ns (items_of vs) (items_of ws) (list_items_alike vs ws e))
split_lists p ns (list vs) _ e h = absurd (let f : true ≡ false = h in cc)
split_lists p ns _ (list ws) e h = absurd (let f : false ≡ true = h in cc)
split_lists p ns _ _ e h = refusal _

splits : (p : Place) (ns : List (List ℕ)) (v w : Plain) → Alike v w → Twin Bounds (lifted (known (split p ns v))) (lifted (known (split p ns w)))
splits p ns v w e = split_lists p ns v w e (lists_alike v w e)

define_ones : (n : Tree) (w v : Walk Thing) → Twin Things w v → Twin Same (define_one n w) (define_one n v)
define_ones n w v h =
    on scope_here (λ x y e. subst (λ z. Twin Same (unless_fault (again_fault x.defined n) >>= λ _. w >>= λ t. with_scope (defining (name_in n) t)) (unless_fault (again_fault z n) >>= λ _. v >>= λ t. with_scope (defining (name_in n) t))) e.defined
    (on_same (judging (again_fault x.defined n)) (λ i. on h (λ t u k. defined_alike (name_in n) t u k))))

define_lists : (p : Place) (ns : Tree) (q : Place) (w v : Walk Thing) → Twin Things w v → Twin Same (define_each p ns q w) (define_each p ns q v)
define_lists p ns q w v h =
    on scope_here (λ x y e. subst (λ z. Twin Same (new_names x.defined ns >>= λ _. w >>= value_wanted q >>= λ i. lifted (known (split p (names_in ns) i)) >>= bind_all) (new_names z ns >>= λ _. v >>= value_wanted q >>= λ i. lifted (known (split p (names_in ns) i)) >>= bind_all)) e.defined
    (on_same (names_new x.defined ns) (λ i. on (on h (value_due q)) (λ j k m. on (splits p (names_in ns) j k m) all_bound))))

assigns : (n : List ℕ) (w v : Walk Thing) → Twin Things w v → Twin Same (w >>= λ t. with_scope (assigning n t)) (v >>= λ t. with_scope (assigning n t))
assigns n w v h = on h (λ t u k. in_scope (assigning n t) (assigning n u) (assigned_alike n t u k) (assigned_stays n t))

chosen_alike : (w v x y : Walk (Unit {0})) → Twin Same w v → Twin Same x y → (c : Plain) → Twin Same (chosen w x c) (chosen v y c)
chosen_alike w v x y h k c = choosing (truth_of c) h k

dropped : (n : ℕ) (xs ys : List (List ℕ × Thing)) → Named xs ys → Named (drop n xs) (drop n ys)
dropped zero xs ys h = h
dropped (suc n) [] [] h = tt
dropped (suc n) (x ∷ xs) (y ∷ ys) h = dropped n xs ys h.1
dropped (suc n) [] (y ∷ ys) h = absurd h
dropped (suc n) (x ∷ xs) [] h = absurd h

lengths : (xs ys : List (List ℕ × Thing)) → Named xs ys → length xs ≡ length ys
lengths [] [] h = refl
lengths (x ∷ xs) (y ∷ ys) h = ap suc (lengths xs ys h.1)
lengths [] (y ∷ ys) h = absurd h
lengths (x ∷ xs) [] h = absurd h

left_alike : (o q : Scope) → Scopes o q → (x y : Scope) → Scopes x y → Scopes (leaving o x) (leaving q y)
left_alike o q h x y e = record {
  path = e.path;
  within = e.within;
  own =
      subst (λ n. Named (drop (length x.own - length o.own) x.own) (drop (n - length q.own) y.own)) (lengths x.own y.own e.own)
      (subst (λ n. Named (drop (length x.own - length o.own) x.own) (drop (length x.own - n) y.own)) (lengths o.own q.own h.own) (dropped (length x.own - length o.own) x.own y.own e.own));
  defined = h.defined;
  names = e.names;
  called = e.called;
  calls = e.calls;
}

braces : (w v : Walk (Unit {0})) → Twin Same w v → Twin Same (in_braces w) (in_braces v)
braces w v h =
    on scope_here (λ o q e. on_same (in_scope entering entering (λ x y i. record { path = i.path; within = i.within; own = i.own; defined = refl; names = i.names; called = i.called; calls = i.calls }) (λ x. (refl, refl)))
    (λ i. on_same h (λ j. in_scope (leaving o) (leaving q) (left_alike o q e) (λ x. (refl, refl)))))

pub logs : (p : Place) (n : List ℕ) (t : Tree) → Twin Same (logged p n t) (logged p n t)
logs p n t = choosing (bytes_eq n (codes "info")) (reading t) (refusal (BadOption p))

-- ---- all parts

row_parts : (x : Tree) (p q : Part) → Parts p p → Parts q q
    → Parts (record nothing_there { arguments = p.argument ∷ q.arguments; items = p.thing >>= value_wanted (begins_at x) >>= λ v. q.items >>= λ vs. gives (v ∷ vs); body = p.done >>= λ _. q.body })
    (record nothing_there { arguments = p.argument ∷ q.arguments; items = p.thing >>= value_wanted (begins_at x) >>= λ v. q.items >>= λ vs. gives (v ∷ vs); body = p.done >>= λ _. q.body })
row_parts x p q h k =
    record {
      thing = nothing_parts.thing;
      head = nothing_parts.head;
      member = nothing_parts.member;
      method = nothing_parts.method;
      called = nothing_parts.called;
      closed = nothing_parts.closed;
      named = nothing_parts.named;
      piped = nothing_parts.piped;
      piped_closed = nothing_parts.piped_closed;
      argument = nothing_parts.argument;
      arguments = (h.argument, k.arguments);
      items = on (on h.thing (value_due (begins_at x))) (λ v w i. on k.items (λ vs ws j. given (v ∷ vs) (w ∷ ws) (i, j)));
      done = given_same tt;
      body = on_same h.done (λ i. k.body);
    }

named_part : (t : Tree) (l : Place × List ℕ) (p : Part) → Parts p p
    → Parts (record p { argument = record { label = Some l; tree = t; thing = p.thing } }) (record p { argument = record { label = Some l; tree = t; thing = p.thing } })
named_part t l p h =
    record {
      thing = h.thing;
      head = h.head;
      member = h.member;
      method = h.method;
      called = h.called;
      closed = h.closed;
      named = h.named;
      piped = h.piped;
      piped_closed = h.piped_closed;
      argument = record { label = refl; tree = refl; thing = h.thing };
      arguments = h.arguments;
      items = h.items;
      done = h.done;
      body = h.body;
    }

value_parts : (t : Tree) → Parts (expression t (gives (a_value null))) (expression t (gives (a_value null)))
value_parts t = expressions t (gives (a_value null)) (gives (a_value null)) (given (a_value null) (a_value null) refl)

pub parts : (t : Tree) → Parts (part_of t) (part_of t)
parts empty = nothing_parts
parts (cons x more) = row_parts x (part_of x) (part_of more) (parts x) (parts more)
parts (tree.name p n) = names_part p n
parts (tree.list p xs) = expressions (tree.list p xs) _ _ (on (parts xs).items (lists_made p))
parts (tree.binary p k a b) = binary_parts k (tree.binary p k a b) a (part_of a) (part_of b) (parts a) (parts b)
parts (tree.conditional p c a b) = expressions (tree.conditional p c a b) _ _ (on_same (valuing c) (λ v. choosing (truth_of v) (parts a).thing (parts b).thing))
parts (tree.property e n) = property_parts (tree.property e n) (part_of e) (parts e) (place_of n) (name_in n)
parts (tree.index p e i) = expressions (tree.index p e i) _ _ (on (parts e).thing (indexes (begins_at e) p (begins_at i) i))
parts (tree.call p f xs) = call_parts (tree.call p f xs) p (part_of f) (part_of xs).arguments (parts f) (parts xs).arguments
parts (tree.call_with f c) = closed_parts (tree.call_with f c) (opening c) (part_of f) (part_of c).argument (parts f) (parts c).argument
parts (tree.named n e) = named_part e (place_of n, name_in n) (part_of e) (parts e)
parts (tree.define p n e) = statement_parts _ _ (define_ones n (part_of e).thing (part_of e).thing (parts e).thing)
parts (tree.define_all p ns e) = statement_parts _ _ (define_lists p ns (begins_at e) (part_of e).thing (part_of e).thing (parts e).thing)
parts (tree.assign n e) = statement_parts _ _ (assigns (name_in n) (part_of e).thing (part_of e).thing (parts e).thing)
parts (tree.return_ p e) = statement_parts _ _ (refusal (BadOption p))
parts (tree.choice p c b last) = statement_parts _ _ (on_same (valuing c) (chosen_alike (part_of b).done (part_of b).done (part_of last).done (part_of last).done (parts b).done (parts last).done))
parts (tree.statements b) = statement_parts _ _ (braces (part_of b).body (part_of b).body (parts b).body)
parts (tree.println p e) = statement_parts _ _ (reading e)
parts (tree.log p n e) = statement_parts _ _ (logs (place_of n) (name_in n) e)
parts e = value_parts e
