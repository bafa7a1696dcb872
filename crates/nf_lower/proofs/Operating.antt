-- Calls of operators, and of `set`.
use Rattle.std.proofs.Common.{◌≡◌, ◌∙◌, ◌≤◌, ◌+◌, ℕ, Bool, true, false, List, [], ◌∷◌, length, map, Result, Ok, Err, refl, sym, ap, subst, arith}
use Rattle.std.proofs.lemmas.Bool.{false≢true}
use Rattle.std.specs.Global.{Vec}
use Rattle.std.specs.Prelude.{Option, None, Some}
use Rattle.nf_value.specs.declared.place.Place.{Place}
use Rattle.nf_ast.specs.Tree as tree
use Rattle.nf_ast.specs.Tree.{Tree}
use Rattle.nf_ast.specs.View.{view_closure}
use Rattle.nf_bag.specs.declared.rows.Row.{Row}
use Rattle.nf_bag.specs.declared.rows.Row.TheVariants.{Set}
use Rattle.nf_graph.specs.Meaning.{Bags}
use Rattle.nf_graph.specs.declared.port.Port.{Port}
use Rattle.nf_optable.specs.declared.rows.OpRow.{OpRow}
use Rattle.nf_arguments.specs.declared.args.Args.{Args}
use Rattle.nf_arguments.specs.declared.args.Before.{Before}
use Rattle.nf_arguments.specs.declared.one.One.{One}
use Rattle.nf_arguments.specs.declared.one.One.TheVariants as one
use Rattle.nf_arguments.specs.declared.written.Written.{Written}
use Rattle.nf_arguments.specs.declared.written.Written.TheVariants as written
use Rattle.nf_arguments.specs.Args.{AreArgs, HasReceiver, IsOne as IsArg, before_in, written_arg, written_args}
use Rattle.nf_arguments.proofs.Behind.{closure_tree}
use Rattle.nf_operator.specs.Row.{takes_ports}
use Rattle.nf_meaning.specs.declared.fault.LowerFault.{LowerFault}
use Rattle.nf_meaning.specs.declared.fault.LowerFault.TheVariants.{BadOption, WrongArity}
use Rattle.nf_meaning.specs.Arguments.{Arg, channel_arg, is_closure, unless_closure, unnamed}
use Rattle.nf_meaning.specs.Calls.{Receiver, operator_for, operator_on, receiver}
use Rattle.nf_meaning.specs.Expressions.{channel_wanted}
use Rattle.nf_meaning.specs.Lowered.{Lowered}
use Rattle.nf_meaning.specs.Operators as meaning
use Rattle.nf_meaning.specs.Operators.{applied, counted_all, named_so, on_argument, operator_call, set_channel, set_outputs, set_thing, with_channel}
use Rattle.nf_meaning.specs.Places.{begins_at}
use Rattle.nf_meaning.specs.Sizes.{counted}
use Rattle.nf_meaning.specs.Stands.{OutputsStand, PortOutput, PortThing, StandsFor, ThingStands, known, read, results}
use Rattle.nf_meaning.specs.Taken as taken
use Rattle.nf_meaning.specs.Taken.{args_ports, nothing_taken, ports_of, take_args}
use Rattle.nf_meaning.specs.Things as things
use Rattle.nf_meaning.specs.Things.{Channel, Output, Thing, a_channel, a_value, outputs}
use Rattle.nf_meaning.specs.Walk.{Around, State, Walk, ◌>>=◌, gives, refused, then_by}
use Rattle.nf_meaning.specs.Workflow.{part_of}
use Rattle.nf_scopes.specs.declared.things.CallOutput.{CallOutput}
use Rattle.nf_scopes.specs.declared.things.Thing as memory
use Rattle.nf_scopes.specs.declared.things.Thing.TheVariants as thing
use Rattle.nf_scopes.specs.Things.{output_of, thing_of}
use Rattle.nf_plan.specs.Plans.{HasRoom, IsPlan}
use Rattle.nf_plan.specs.Runs.{Run, bags_of}
use Rattle.nf_plan.specs.declared.builder.PlanBuilder.{PlanBuilder}
use Rattle.nf_follows.specs.Things.{OutputsRead, PortReads, ThingReads}
use Rattle.nf_lowering.specs.declared.state.Lowering.{Lowering}
use Rattle.nf_lowering.specs.State.{IsLowering}
use Rattle.nf_applied.specs.Calls.{IsCalled, IsOperatorOf, TakesName, TookName}
use Rattle.nf_applied.specs.DeclaredTaken.{Taken}
use Rattle.nf_applied.specs.Taken.{IsTaken}
use Rattle.nf_walked.specs.Args.{BeforeReads, OneReads}
use Rattle.nf_walked.specs.Forms.{a_port, a_thing, nothing}
use Rattle.nf_walked.specs.Parts.{of_args, of_call, of_channel, of_one, thing_arg}
use Rattle.nf_walked.specs.Steps.{Due, Form, Goes, Known, Later, Point, StandsAt, Walked, due, from}
use Rattle.nf_walked.proofs.ArgLoops.{moved}
use Rattle.nf_walked.proofs.Leads.{Head, Ins, Leads, Tail, Turn, begins, ends, fails, goes_further}
use Rattle.nf_walked.proofs.Stills.{alike, refused_here}
use Rattle.nf_applied.specs.Applied.{IsNamed, of_applied, of_count, of_named, of_named_outputs}
use Rattle.nf_applied.specs.Rooms.{LeavesRoom, Used}
use Rattle.nf_applied.specs.Taking.{TakenFits, a_taken}
use Rattle.nf_applied.proofs.Rooms.{goes_keeps, leaves_on, room_kept}
use Rattle.nf_applied.proofs.Using.{ends_used, ends_using, used_fault}
use Rattle.nf_lower.specs.Operators.{IsOne, IsOther, of_received, on_thing, reads_in}

-- ---- which operator

pub is_other : (r : Row) → (r ≡ Set → ⊥) → IsOther r
is_other Set h = absurd (h refl)
is_other _ h = tt

other_thing : (p : Place) (k : OpRow) (r : Row) (t : Thing) (xs : List Arg) → IsOther r → meaning.on_thing p k r t xs ≡ on_thing p k r t xs
other_thing p k Set t xs h = absurd h
other_thing p k _ t xs h = refl

-- an operator that isn't `set` on its first argument
abbrev pub on_received : Place → OpRow → Row → Arg → List Arg → Walk Thing
on_received p k r x xs = counted p (ports_of k (unnamed xs)) >>= λ _. channel_arg x >>= with_channel p k r xs

other_argument : (p : Place) (k : OpRow) (r : Row) (x : Arg) (xs : List Arg) → IsOther r → on_argument p k r x xs ≡ on_received p k r x xs
other_argument p k Set x xs h = absurd h
other_argument p k _ x xs h = refl

-- so many arguments have no name
abbrev pub CountsArgs : Args → ℕ → Type 0
CountsArgs x n = (bags : Bags) (ys : List Arg) → AreArgs bags x ys → n ≡ unnamed ys

module _ (K : Known) (p : Place) (k : OpRow) (n : ℕ) {I : Type 0} (In : Ins (I × List Arg)) (call : Row → I → List Arg → Walk Thing) (old : Lowering) (keeps : IsLowering old)
    (counts : (q : Point) (z : Lowering) (y : I × List Arg) → In q z y → n ≡ unnamed y.1) where
  abbrev pub calls : I × List Arg → Walk Thing
  calls y = operator_call p k (unnamed y.1) (λ r. call r y.0 y.1)

  pub call_refused : (e : LowerFault) → IsOperatorOf p k n (Err e) → Walked K (record { In = In; walk = calls; form = a_thing }) old old (Err e)
  call_refused e h =
      refused_here K (record { In = In; walk = calls; form = a_thing }) old e keeps
      (λ q y stands is.
      (let w : Row → Walk Thing = λ r. call r y.0 y.1 in
      ap (λ m. operator_call p k m w q.around q.state) (sym (counts q old y is)) ∙ ap (λ (v : Walk Thing). v q.around q.state) (h w)))

  pub call_goes : (r : Row) (new : Lowering) (res : Result memory.Thing LowerFault) (one : I → List Arg → Walk Thing) → IsCalled p k n r → ((i : I) (xs : List Arg) → call r i xs ≡ one i xs)
      → Walked K (record { In = In; walk = λ y. one y.0 y.1; form = a_thing }) old new res → Walked K (record { In = In; walk = calls; form = a_thing }) old new res
  call_goes r new res one h same step =
      alike K (record { In = In; walk = λ y. one y.0 y.1; form = a_thing }) In calls old new res step
      (λ q y stands is.
      (let w : Row → Walk Thing = λ s. call s y.0 y.1 in (
        y,
        is,
        sym
            (ap (λ m. operator_call p k m w q.around q.state) (sym (counts q old y is)) ∙ ap (λ (v : Walk Thing). v q.around q.state) (h.goes_on w) ∙ ap (λ (v : Walk Thing). v q.around q.state) (same y.0 y.1)),
      )))

-- ---- the operator on a channel

module _ (K : Known) (p : Place) (k : OpRow) (r : Row) (args : Args) (port : Port) (old mid : Lowering) (keeps : IsLowering old) (reads : PortReads old.plan port) where
  abbrev pub Fed : Ins (Channel × List Arg)
  Fed q z y = a_port.Stands q.run z.plan port y.0 × AreArgs (bags_of q.run z.plan) args y.1

  abbrev pub fed : Channel × List Arg → Walk Thing
  fed y = with_channel p k r y.1 y.0

  abbrev taking : List Arg → Walk taken.Taken
  taking xs = take_args k r xs nothing_taken

  abbrev pub applying : taken.Taken × Channel → Walk Thing
  applying j = applied (record { place = p; row = r; taken = j.0; channels = j.1 ∷ j.0.channels })

  pub fed_fails : (nodes ports : ℕ) (e : LowerFault) → Walked K (of_args args (a_taken r) taking) old mid (Err e) → Used K nodes ports (of_channel port args a_thing (λ c xs. with_channel p k r xs c)) old mid (Err e)
  fed_fails nodes ports e step =
      used_fault K nodes ports (of_channel port args a_thing (λ c xs. with_channel p k r xs c)) old mid e
      (fails K Fed fed Fed fed old old (of_args args (a_taken r) taking) a_thing mid e (begins K Fed fed old keeps) step
      (λ q y stands is. record { first = y.1; stands = is.1; rest = λ t. applying (t, y.0); same = refl }))

  pub fed_given : (new : Lowering) (v : Taken) (nodes ports : ℕ) (res : Result memory.Thing LowerFault) → Walked K (of_args args (a_taken r) taking) old mid (Ok v) → Used K nodes ports (of_applied p r port v) mid new res
      → Used K nodes ports (of_channel port args a_thing (λ c xs. with_channel p k r xs c)) old new res
  fed_given new v nodes ports res one two =
      let Took = λ (q : Point) (z : Lowering) (j : taken.Taken × Channel). IsTaken q.run.program (bags_of q.run z.plan) v j.0 × StandsFor (bags_of q.run z.plan) port j.1 in
      ends_using K Fed fed Took applying old mid (of_applied p r port v) nodes ports new res
      (goes_further K Fed fed Fed fed old old (of_args args (a_taken r) taking) Took applying mid v (begins K Fed fed old keeps) one
      (λ q y stands is.
      record {
        first = y.1;
        stands = is.1;
        goes = λ t s there out came. ((t, y.0), (out, one.later.stands q.run (read port) (a_channel y.0) reads is.0), ap (then_by q.around (λ u. applying (u, y.0))) came);
      }))
      two (λ q j stands is. record { first = j; stands = is; same = refl })

-- ---- an operator on what was made before

count_between : {D : Type 0} (p : Place) (n : ℕ) (R : Channel → Walk D) (a : Around) (v : Lowered (Channel × State))
    → then_by a (λ c. counted p n >>= λ _. R c) v ≡ then_by a R (then_by a (λ c. counted p n >>= λ _. gives c) v)
count_between p n R a (Ok x) = by (counted p n a x.1)
  where
    by : (w : Lowered (Unit {0} × State)) → then_by a (λ _. R x.0) w ≡ then_by a R (then_by a (λ _. gives x.0) w)
    by (Ok y) = refl
    by (Err e) = refl
count_between p n R a (Err e) = refl

module _ (K : Known) (p : Place) (k : OpRow) (r : Row) (args : Args) (t : memory.Thing) (n : ℕ) (old mid : Lowering) (keeps : IsLowering old) (counts : CountsArgs args n) where
  abbrev pub Met : Ins (Thing × List Arg)
  Met q z y = a_thing.Stands q.run z.plan t y.0 × AreArgs (bags_of q.run z.plan) args y.1

  abbrev pub met : Thing × List Arg → Walk Thing
  met y = on_thing p k r y.0 y.1

  abbrev opening : Thing → Walk Channel
  opening y = channel_wanted p y >>= λ c. counted p (ports_of k n) >>= λ _. gives c

  opened : (y : Thing × List Arg) (a : Around) (s : State) → n ≡ unnamed y.1 → met y a s ≡ then_by a (λ c. with_channel p k r y.1 c) (opening y.0 a s)
  opened y a s is =
      ap (λ m. then_by a (λ c. counted p (ports_of k m) >>= λ _. with_channel p k r y.1 c) (channel_wanted p y.0 a s)) (sym is)
      ∙ count_between p (ports_of k n) (λ c. with_channel p k r y.1 c) a (channel_wanted p y.0 a s)

  pub met_fails : (e : LowerFault) → Walked K (from a_thing t a_port opening) old mid (Err e) → Walked K (of_call t args a_thing (on_thing p k r)) old mid (Err e)
  met_fails e step =
      fails K Met met Met met old old (from a_thing t a_port opening) a_thing mid e (begins K Met met old keeps) step
      (λ q y stands is. record { first = y.0; stands = is.0; rest = λ c. with_channel p k r y.1 c; same = opened y q.around q.state (counts (bags_of q.run old.plan) y.1 is.1) })

  pub met_given : (none : args.before ≡ None) (new : Lowering) (port : Port) (nodes ports : ℕ) (res : Result memory.Thing LowerFault) → Walked K (from a_thing t a_port opening) old mid (Ok port)
      → LeavesRoom nodes ports old.plan mid.plan → Used K nodes ports (of_channel port args a_thing (λ c xs. with_channel p k r xs c)) mid new res → Walked K (of_call t args a_thing (on_thing p k r)) old new res
  met_given none new port nodes ports res one room two =
      let Feeds = λ (q : Point) (z : Lowering) (y : Channel × List Arg). a_port.Stands q.run z.plan port y.0 × AreArgs (bags_of q.run z.plan) args y.1 in
      let feeds = λ (y : Channel × List Arg). with_channel p k r y.1 y.0 in
      ends_used K Met met Feeds feeds old mid (of_channel port args a_thing (λ c xs. with_channel p k r xs c)) nodes ports new res
      (goes_further K Met met Met met old old (from a_thing t a_port opening) Feeds feeds mid port (begins K Met met old keeps) one
      (λ q y stands is.
      record {
        first = y.0;
        stands = is.0;
        goes = λ c s there out came. (
          (c, y.1),
          (out, moved (bags_of q.run old.plan) (bags_of q.run mid.plan) args y.1 none is.1),
          opened y q.around q.state (counts (bags_of q.run old.plan) y.1 is.1) ∙ ap (then_by q.around (λ d. with_channel p k r y.1 d)) came,
        );
      }))
      two (λ q j stands is. record { first = j; stands = is; same = refl }) room

-- ---- an operator on its first argument

-- what stands before a pipe still does after nodes are added behind
pub one_later : (old new : PlanBuilder) → Later old new → (x : Run) (o : One) (y : Arg) → OneReads old o → IsArg (bags_of x old) o y → IsArg (bags_of x new) o y
one_later old new l x (one.Before b) y reads h = record {
  label = h.label;
  place = h.place;
  value = h.value;
  thing = h.thing;
  gives_it = h.gives_it;
  stands = l.stands x (thing_of b.thing) h.thing reads h.stands;
}
one_later old new l x (one.Written w) y reads h = h

pub one_still : (old new : PlanBuilder) → Later old new → (o : One) → OneReads old o → OneReads new o
one_still old new l (one.Before b) h = l.reads (thing_of b.thing) h
one_still old new l (one.Written w) h = tt

-- a closure stands for nothing, as an argument or by itself
closure_alone : (t : Tree) (a : Around) (s : State) → is_closure t ≡ true → (part_of t).thing a s ≡ Err (BadOption (begins_at t))
closure_alone (tree.closure p ps b) a s h = refl
closure_alone _ a s h = absurd (false≢true h)

pub closure_argument : (t : Tree) (a : Around) (s : State) → is_closure t ≡ true → (part_of t).argument.thing a s ≡ Err (BadOption (begins_at (part_of t).argument.tree))
closure_argument (tree.closure p ps b) a s h = refl
closure_argument _ a s h = absurd (false≢true h)

by_closure : (b : Bool) (q : Place) (w : Walk Thing) (a : Around) (s : State) → (b ≡ true → w a s ≡ Err (BadOption q)) → w a s ≡ unless_closure b q w a s
by_closure true q w a s h = h refl
by_closure false q w a s h = refl

pub written_same : (w : Written) (a : Around) (s : State) → (written_arg w).thing a s ≡ thing_arg (written_arg w) a s
written_same (written.Arg x) a s =
    let y = written_arg (written.Arg x) in
    by_closure (is_closure y.tree) (begins_at y.tree) y.thing a s (λ h. closure_alone y.tree a s h)
written_same (written.Closure c) a s =
    let y = written_arg (written.Closure c) in
    by_closure (is_closure y.tree) (begins_at y.tree) y.thing a s (λ h. closure_argument (view_closure c.now) a s (ap is_closure (sym (closure_tree c.now)) ∙ h))

pub one_same : (bags : Bags) (o : One) (y : Arg) (a : Around) (s : State) → IsArg bags o y → y.thing a s ≡ thing_arg y a s
one_same bags (one.Before b) y a s h = sym (ap (λ k. unless_closure k (begins_at y.tree) y.thing a s) h.value)
one_same bags (one.Written w) y a s h =
    ap (λ (z : Arg). z.thing a s) h ∙ written_same w a s ∙ sym (ap (λ (z : Arg). thing_arg z a s) h)

module _ (K : Known) (p : Place) (k : OpRow) (x : One) (args : Args) (none : args.before ≡ None) (old : Lowering) (keeps : IsLowering old) (reads : OneReads old.plan x) where
  abbrev pub Got : Ins (Arg × List Arg)
  Got q z y = IsArg (bags_of q.run z.plan) x y.0 × AreArgs (bags_of q.run z.plan) args y.1

  abbrev pub named : Arg × List Arg → Walk Thing
  named y = on_argument p k Set y.0 y.1

  -- ---- `set`

  module _ (mid : Lowering) where
    pub named_fails : (e : LowerFault) → Walked K (of_one x a_thing thing_arg) old mid (Err e) → Walked K (of_received x args (on_argument p k Set)) old mid (Err e)
    named_fails e step =
        fails K Got named Got named old old (of_one x a_thing thing_arg) a_thing mid e (begins K Got named old keeps) step
        (λ q y stands is.
        record {
          first = y.0;
          stands = is.0;
          rest = λ t. set_thing p k y.1 t (begins_at y.0.tree);
          same = ap (then_by q.around (λ t. set_thing p k y.1 t (begins_at y.0.tree))) (one_same (bags_of q.run old.plan) x y.0 q.around q.state is.0);
        })

    pub named_given : (new : Lowering) (t : memory.Thing) (begin : Place) (res : Result memory.Thing LowerFault) → ((bags : Bags) (y : Arg) → IsArg bags x y → begin ≡ begins_at y.tree)
        → Walked K (of_one x a_thing thing_arg) old mid (Ok t) → Walked K (of_call t args a_thing (λ u xs. set_thing p k xs u begin)) mid new res
        → Walked K (of_received x args (on_argument p k Set)) old new res
    named_given new t begin res place one two =
        let Made = λ (q : Point) (z : Lowering) (j : Thing × List Arg). a_thing.Stands q.run z.plan t j.0 × AreArgs (bags_of q.run z.plan) args j.1 in
        let making = λ (j : Thing × List Arg). set_thing p k j.1 j.0 begin in
        ends K Got named Made making old mid (of_call t args a_thing (λ u xs. set_thing p k xs u begin)) new res
        (goes_further K Got named Got named old old (of_one x a_thing thing_arg) Made making mid t (begins K Got named old keeps) one
        (λ q y stands is.
        record {
          first = y.0;
          stands = is.0;
          goes = λ u s there out came. (
            (u, y.1),
            (out, moved (bags_of q.run old.plan) (bags_of q.run mid.plan) args y.1 none is.1),
            ap (then_by q.around (λ v. set_thing p k y.1 v (begins_at y.0.tree))) (one_same (bags_of q.run old.plan) x y.0 q.around q.state is.0 ∙ came)
                ∙ ap (λ (b : Place). set_thing p k y.1 u b q.around s) (sym (place (bags_of q.run old.plan) y.0 is.0)),
          );
        }))
        two (λ q j stands is. record { first = j; stands = is; same = refl })

  -- ---- another operator

  module _ (r : Row) (other : IsOther r) (n : ℕ) (counts : CountsArgs args n) (mid : Lowering) where
    abbrev pub got : Arg × List Arg → Walk Thing
    got y = on_argument p k r y.0 y.1

    abbrev fetching : Arg × List Arg → Walk Thing
    fetching y = channel_arg y.0 >>= with_channel p k r y.1

    abbrev counting : Due (Unit {0}) (Unit {0}) (Unit {0})
    counting = due nothing (counted p (ports_of k n))

    counted_first : (y : Arg × List Arg) (a : Around) (s : State) → n ≡ unnamed y.1 → got y a s ≡ then_by a (λ _. fetching y) (counted p (ports_of k n) a s)
    counted_first y a s is =
        ap (λ (w : Walk Thing). w a s) (other_argument p k r y.0 y.1 other) ∙ ap (λ m. then_by a (λ _. fetching y) (counted p (ports_of k m) a s)) (sym is)

    pub got_fails : (e : LowerFault) → Walked K counting old mid (Err e) → Walked K (of_received x args (on_argument p k r)) old mid (Err e)
    got_fails e step =
        fails K Got got Got got old old counting a_thing mid e (begins K Got got old keeps) step
        (λ q y stands is. record { first = tt; stands = tt; rest = λ _. fetching y; same = counted_first y q.around q.state (counts (bags_of q.run old.plan) y.1 is.1) })

    module _ (u : Unit {0}) (one : Walked K counting old mid (Ok u)) where
      counted_leads : Leads K Got got Got fetching old mid
      counted_leads =
          goes_further K Got got Got got old old counting Got fetching mid u (begins K Got got old keeps) one
          (λ q y stands is.
          record {
            first = tt;
            stands = tt;
            goes = λ v s there out came. (
              y,
              (
                one_later old.plan mid.plan one.later q.run x y.0 reads is.0,
                moved (bags_of q.run old.plan) (bags_of q.run mid.plan) args y.1 none is.1,
              ),
              counted_first y q.around q.state (counts (bags_of q.run old.plan) y.1 is.1) ∙ ap (then_by q.around (λ _. fetching y)) came,
            );
          })

      pub fetch_fails : (new : Lowering) (e : LowerFault) → Walked K (of_one x a_port channel_arg) mid new (Err e) → Walked K (of_received x args (on_argument p k r)) old new (Err e)
      fetch_fails new e step =
          fails K Got got Got fetching old mid (of_one x a_port channel_arg) a_thing new e counted_leads step
          (λ q y stands is. record { first = y.0; stands = is.0; rest = with_channel p k r y.1; same = refl })

      pub got_given : (last new : Lowering) (port : Port) (nodes ports : ℕ) (res : Result memory.Thing LowerFault) → Walked K (of_one x a_port channel_arg) mid last (Ok port) → LeavesRoom nodes ports old.plan mid.plan
          → Used K nodes ports (of_channel port args a_thing (λ c xs. with_channel p k r xs c)) last new res → Walked K (of_received x args (on_argument p k r)) old new res
      got_given last new port nodes ports res two room three =
          let Feeds = λ (q : Point) (z : Lowering) (y : Channel × List Arg). a_port.Stands q.run z.plan port y.0 × AreArgs (bags_of q.run z.plan) args y.1 in
          let feeds = λ (y : Channel × List Arg). with_channel p k r y.1 y.0 in
          ends_used K Got got Feeds feeds old last (of_channel port args a_thing (λ c xs. with_channel p k r xs c)) nodes ports new res
          (goes_further K Got got Got fetching old mid (of_one x a_port channel_arg) Feeds feeds last port counted_leads two
          (λ q y stands is.
          record {
            first = y.0;
            stands = is.0;
            goes = λ c s there out came. (
              (c, y.1),
              (out, moved (bags_of q.run mid.plan) (bags_of q.run last.plan) args y.1 none is.1),
              ap (then_by q.around (with_channel p k r y.1)) came,
            );
          }))
          three (λ q j stands is. record { first = j; stands = is; same = refl })
          (leaves_on nodes ports old.plan mid.plan last.plan room (goes_keeps mid last two.goes))

-- ---- the first argument is taken out

module _ (K : Known) (p : Place) (k : OpRow) (args : Args) (old : Lowering) where
  pub receiver_none : ((bags : Bags) (ys : List Arg) → AreArgs bags args ys → receiver ys ≡ None) → IsLowering old → Walked K (of_args args a_thing (operator_on p k)) old old (Err (WrongArity p))
  receiver_none h keeps =
      refused_here K (of_args args a_thing (operator_on p k)) old (WrongArity p) keeps
      (λ q ys stands is. ap (λ o. operator_for p k o q.around q.state) (h (bags_of q.run old.plan) ys is))

  pub receiver_given : (x : One) (others : Args) (new : Lowering) (res : Result memory.Thing LowerFault) → HasReceiver x args others
      → Walked K (of_received x others (λ y ys. operator_call p k (unnamed ys) (λ r. on_argument p k r y ys))) old new res → Walked K (of_args args a_thing (operator_on p k)) old new res
  receiver_given x others new res h step =
      alike K (of_received x others (λ y ys. operator_call p k (unnamed ys) (λ r. on_argument p k r y ys))) (λ q z ys. AreArgs (bags_of q.run z.plan) args ys) (operator_on p k) old new res step
      (λ q ys stands is.
      (let it = h.splits (bags_of q.run old.plan) ys is in ((it.0, it.1), (it.3, it.4), ap (λ o. operator_for p k o q.around q.state) (sym it.2))))

pub receiver_reads : (b : PlanBuilder) (x : One) (old new : Args) → HasReceiver x old new → BeforeReads b old.before → OneReads b x
receiver_reads b x old new h reads =
    let P : Option Before → Type 0 = λ o. BeforeReads b o in
    by x (subst P h.was reads)
  where
    by : (y : One) → BeforeReads b (before_in y) → OneReads b y
    by (one.Before c) k = k
    by (one.Written w) k = tt

-- ---- `set` on a channel or a value

pub is_one : (t : memory.Thing) → ((os : Vec CallOutput) → t ≡ thing.Outputs os → ⊥) → IsOne (thing_of t)
is_one (thing.Known v) h = tt
is_one (thing.Channel q) h = tt
is_one (thing.Outputs os) h = absurd (h os refl)

-- what was taken is nothing yet
no_name : TookName nothing_taken
no_name = record { nothing = record { closing = refl; pattern = refl; literal = refl }; labels = refl }

module _ (K : Known) (p begin : Place) (k : OpRow) (args : Args) (none : args.before ≡ None) (t : memory.Thing) (one_thing : IsOne (thing_of t)) (old mid : Lowering) (keeps : IsLowering old) where
  abbrev Setting : Ins (Thing × List Arg)
  Setting q z y = a_thing.Stands q.run z.plan t y.0 × AreArgs (bags_of q.run z.plan) args y.1

  abbrev setting : Thing × List Arg → Walk Thing
  setting y = set_thing p k y.1 y.0 begin

  abbrev starting : Thing → Walk Channel
  starting y = counted p 1 >>= λ _. channel_wanted begin y

  abbrev after_taking : Channel → taken.Taken → Walk Thing
  after_taking c u = set_channel p u c >>= λ d. named_so u.word (a_channel d)

  abbrev naming : Channel → List Arg → Walk Thing
  naming c xs = take_args k Set xs nothing_taken >>= after_taking c

  value_first : (xs : List Arg) (v : things.Thing) (a : Around) (w : Lowered (Unit {0} × State))
      → then_by a (λ _. channel_wanted begin v >>= λ c. naming c xs) w ≡ then_by a (λ c. naming c xs) (then_by a (λ _. channel_wanted begin v) w)
  value_first xs v a (Ok x) = refl
  value_first xs v a (Err e) = refl

  channel_first : (xs : List Arg) (c : Channel) (a : Around) (w : Lowered (Unit {0} × State))
      → then_by a (λ _. naming c xs) w ≡ then_by a (λ d. naming d xs) (then_by a (λ _. channel_wanted begin (a_channel c)) w)
  channel_first xs c a (Ok x) = refl
  channel_first xs c a (Err e) = refl

  by_parts : (bags : Bags) (o : PortThing) (y : Thing) (xs : List Arg) (a : Around) (s : State) → IsOne o → ThingStands bags o y → set_thing p k xs y begin a s ≡ then_by a (λ c. naming c xs) (starting y a s)
  by_parts bags (known v) (a_value w) xs a s i h = value_first xs (a_value w) a (counted p 1 a s)
  by_parts bags (read q) (a_channel c) xs a s i h = channel_first xs c a (counted p 1 a s)
  by_parts bags (results os) y xs a s i h = absurd i
  by_parts bags (known v) (a_channel c) xs a s i h = absurd h
  by_parts bags (known v) (outputs qs) xs a s i h = absurd h
  by_parts bags (read q) (a_value w) xs a s i h = absurd h
  by_parts bags (read q) (outputs qs) xs a s i h = absurd h

  pub start_fails : (e : LowerFault) → Walked K (from a_thing t a_port starting) old mid (Err e) → Walked K (of_call t args a_thing (λ u xs. set_thing p k xs u begin)) old mid (Err e)
  start_fails e step =
      fails K Setting setting Setting setting old old (from a_thing t a_port starting) a_thing mid e (begins K Setting setting old keeps) step
      (λ q y stands is. record { first = y.0; stands = is.0; rest = λ c. naming c y.1; same = by_parts (bags_of q.run old.plan) (thing_of t) y.0 y.1 q.around q.state one_thing is.0 })

  module _ (port : Port) (one : Walked K (from a_thing t a_port starting) old mid (Ok port)) where
    abbrev Opened : Ins (Channel × List Arg)
    Opened q z y = a_port.Stands q.run z.plan port y.0 × AreArgs (bags_of q.run z.plan) args y.1

    abbrev opening_all : Channel × List Arg → Walk Thing
    opening_all y = naming y.0 y.1

    started : Leads K Setting setting Opened opening_all old mid
    started =
        goes_further K Setting setting Setting setting old old (from a_thing t a_port starting) Opened opening_all mid port (begins K Setting setting old keeps) one
        (λ q y stands is.
        record {
          first = y.0;
          stands = is.0;
          goes = λ c s there out came. (
            (c, y.1),
            (out, moved (bags_of q.run old.plan) (bags_of q.run mid.plan) args y.1 none is.1),
            by_parts (bags_of q.run old.plan) (thing_of t) y.0 y.1 q.around q.state one_thing is.0 ∙ ap (then_by q.around (λ d. naming d y.1)) came,
          );
        })

    pub take_fails : (new : Lowering) (e : LowerFault) → Walked K (of_args args (a_taken Set) (λ xs. take_args k Set xs nothing_taken)) mid new (Err e)
        → Walked K (of_call t args a_thing (λ u xs. set_thing p k xs u begin)) old new (Err e)
    take_fails new e step =
        fails K Setting setting Opened opening_all old mid (of_args args (a_taken Set) (λ xs. take_args k Set xs nothing_taken)) a_thing new e started step
        (λ q y stands is. record { first = y.1; stands = is.1; rest = after_taking y.0; same = refl })

    pub set_given : (last new : Lowering) (v : Taken) (res : Result memory.Thing LowerFault) → ((xs : List Arg) → TakesName k Set xs) → LeavesRoom 1 1 old.plan mid.plan
        → Walked K (of_args args (a_taken Set) (λ xs. take_args k Set xs nothing_taken)) mid last (Ok v) → Used K 1 1 (of_named p port v) last new res
        → Walked K (of_call t args a_thing (λ u xs. set_thing p k xs u begin)) old new res
    set_given last new v res names room two three =
        let Took = λ (q : Point) (z : Lowering) (j : taken.Taken × Channel). IsNamed q.run.program (bags_of q.run z.plan) v j.0 × StandsFor (bags_of q.run z.plan) port j.1 in
        let naming_it = λ (j : taken.Taken × Channel). after_taking j.1 j.0 in
        ends_used K Setting setting Took naming_it old last (of_named p port v) 1 1 new res
        (goes_further K Setting setting Opened opening_all old mid (of_args args (a_taken Set) (λ xs. take_args k Set xs nothing_taken)) Took naming_it last v started two
        (λ q y stands is.
        record {
          first = y.1;
          stands = is.1;
          goes = λ u s there out came. (
            (u, y.0),
            (
              record { taken = out; name = names y.1 nothing_taken q.around q.state (u, s) no_name came },
              two.later.stands q.run (read port) (a_channel y.0) one.fits is.0,
            ),
            ap (then_by q.around (after_taking y.0)) came,
          );
        }))
        three (λ q j stands is. record { first = j; stands = is; same = refl })
        (leaves_on 1 1 old.plan mid.plan last.plan room (goes_keeps mid last two.goes))

-- ---- `set` on all that a call gives

results_are : (bags : Bags) (os : List PortOutput) (y : Thing) → ThingStands bags (results os) y → (qs : List Output) × (y ≡ outputs qs) × OutputsStand bags os qs
results_are bags os (outputs qs) h = (qs, refl, h)
results_are bags os (a_value v) h = absurd h
results_are bags os (a_channel c) h = absurd h

as_many : (bags : Bags) (os : List CallOutput) (qs : List Output) → OutputsStand bags (map output_of os) qs → length qs ≡ length os
as_many bags [] [] h = refl
as_many bags [] (q ∷ qs) h = absurd h
as_many bags (o ∷ os) [] h = absurd h
as_many bags (o ∷ os) (q ∷ qs) h = let more = as_many bags os qs h.1 in omega (arith, more)

module _ (K : Known) (p begin : Place) (k : OpRow) (args : Args) (none : args.before ≡ None) (os : Vec CallOutput) (old mid : Lowering) (keeps : IsLowering old) (reads : OutputsRead old.plan (map output_of os.items)) where
  abbrev All : Ins (Thing × List Arg)
  All q z y = a_thing.Stands q.run z.plan (thing.Outputs os) y.0 × AreArgs (bags_of q.run z.plan) args y.1

  abbrev all_set : Thing × List Arg → Walk Thing
  all_set y = set_thing p k y.1 y.0 begin

  abbrev all_after : List Output → taken.Taken → Walk Thing
  all_after qs u = set_outputs p u qs >>= λ more. named_so u.word (outputs more)

  abbrev all_naming : List Output → List Arg → Walk Thing
  all_naming qs xs = take_args k Set xs nothing_taken >>= all_after qs

  abbrev counting_all : Due (List Output) (Unit {0}) (Unit {0})
  counting_all = of_count (length os.items) (counted_all p)

  pub count_fails : (e : LowerFault) → Walked K counting_all old mid (Err e) → Walked K (of_call (thing.Outputs os) args a_thing (λ u xs. set_thing p k xs u begin)) old mid (Err e)
  count_fails e step =
      fails K All all_set All all_set old old counting_all a_thing mid e (begins K All all_set old keeps) step
      (λ q y stands is.
      (let it = results_are (bags_of q.run old.plan) (map output_of os.items) y.0 is.0 in
      record {
        first = it.0;
        stands = as_many (bags_of q.run old.plan) os.items it.0 it.2;
        rest = λ _. all_naming it.0 y.1;
        same = ap (λ (t : Thing). set_thing p k y.1 t begin q.around q.state) it.1;
      }))

  module _ (u : Unit {0}) (one : Walked K counting_all old mid (Ok u)) where
    abbrev Counted : Ins (List Output × List Arg)
    Counted q z y = OutputsStand (bags_of q.run z.plan) (map output_of os.items) y.0 × AreArgs (bags_of q.run z.plan) args y.1

    abbrev naming_all : List Output × List Arg → Walk Thing
    naming_all y = all_naming y.0 y.1

    all_counted : Leads K All all_set Counted naming_all old mid
    all_counted =
        goes_further K All all_set All all_set old old counting_all Counted naming_all mid u (begins K All all_set old keeps) one
        (λ q y stands is.
        (let it = results_are (bags_of q.run old.plan) (map output_of os.items) y.0 is.0 in
        record {
          first = it.0;
          stands = as_many (bags_of q.run old.plan) os.items it.0 it.2;
          goes = λ v s there out came. (
            (it.0, y.1),
            (
              one.later.stands q.run (results (map output_of os.items)) (outputs it.0) reads it.2,
              moved (bags_of q.run old.plan) (bags_of q.run mid.plan) args y.1 none is.1,
            ),
            ap (λ (t : Thing). set_thing p k y.1 t begin q.around q.state) it.1 ∙ ap (then_by q.around (λ _. all_naming it.0 y.1)) came,
          );
        }))

    pub all_take_fails : (new : Lowering) (e : LowerFault) → Walked K (of_args args (a_taken Set) (λ xs. take_args k Set xs nothing_taken)) mid new (Err e)
        → Walked K (of_call (thing.Outputs os) args a_thing (λ v xs. set_thing p k xs v begin)) old new (Err e)
    all_take_fails new e step =
        fails K All all_set Counted naming_all old mid (of_args args (a_taken Set) (λ xs. take_args k Set xs nothing_taken)) a_thing new e all_counted step
        (λ q y stands is. record { first = y.1; stands = is.1; rest = all_after y.0; same = refl })

    pub all_given : (last new : Lowering) (v : Taken) (res : Result memory.Thing LowerFault) → ((xs : List Arg) → TakesName k Set xs) → LeavesRoom (length os.items) (length os.items) old.plan mid.plan
        → Walked K (of_args args (a_taken Set) (λ xs. take_args k Set xs nothing_taken)) mid last (Ok v) → Used K (length os.items) (length os.items) (of_named_outputs p os.items v) last new res
        → Walked K (of_call (thing.Outputs os) args a_thing (λ w xs. set_thing p k xs w begin)) old new res
    all_given last new v res names room two three =
        let n = length os.items in
        let Took =
        λ (q : Point) (z : Lowering) (j : taken.Taken × List Output). IsNamed q.run.program (bags_of q.run z.plan) v j.0 × OutputsStand (bags_of q.run z.plan) (map output_of os.items) j.1
        in
        let naming_them = λ (j : taken.Taken × List Output). all_after j.1 j.0 in
        ends_used K All all_set Took naming_them old last (of_named_outputs p os.items v) n n new res
        (goes_further K All all_set Counted naming_all old mid (of_args args (a_taken Set) (λ xs. take_args k Set xs nothing_taken)) Took naming_them last v all_counted two
        (λ q y stands is.
        record {
          first = y.1;
          stands = is.1;
          goes = λ w s there out came. (
            (w, y.0),
            (
              record { taken = out; name = names y.1 nothing_taken q.around q.state (w, s) no_name came },
              two.later.stands q.run (results (map output_of os.items)) (outputs y.0) (one.later.reads (results (map output_of os.items)) reads) is.0,
            ),
            ap (then_by q.around (all_after y.0)) came,
          );
        }))
        three (λ q j stands is. record { first = j; stands = is; same = refl })
        (leaves_on n n old.plan mid.plan last.plan room (goes_keeps mid last two.goes))

-- where it begins doesn't matter
pub all_anywhere : (K : Known) (p begin : Place) (k : OpRow) (args : Args) (os : Vec CallOutput) (t : memory.Thing) (old new : Lowering) (res : Result memory.Thing LowerFault) → t ≡ thing.Outputs os
    → Walked K (of_call (thing.Outputs os) args a_thing (λ u xs. set_thing p k xs u p)) old new res → Walked K (of_call t args a_thing (λ u xs. set_thing p k xs u begin)) old new res
all_anywhere K p begin k args os t old new res is step =
    let P : memory.Thing → Type 0 = λ v. Walked K (of_call v args a_thing (λ u xs. set_thing p k xs u begin)) old new res in
    subst P (sym is)
    (alike K (of_call (thing.Outputs os) args a_thing (λ u xs. set_thing p k xs u p)) (λ q z y. a_thing.Stands q.run z.plan (thing.Outputs os) y.0 × AreArgs (bags_of q.run z.plan) args y.1) (λ y. set_thing p k y.1 y.0 begin) old
    new res step (λ q y stands h. (y, h, by q y.0 y.1 (results_are (bags_of q.run old.plan) (map output_of os.items) y.0 h.0))))
  where
    by : (q : Point) (y : Thing) (xs : List Arg) → ((qs : List Output) × (y ≡ outputs qs) × OutputsStand (bags_of q.run old.plan) (map output_of os.items) qs)
        → set_thing p k xs y p q.around q.state ≡ set_thing p k xs y begin q.around q.state
    by q y xs it = ap (λ (v : Thing). set_thing p k xs v p q.around q.state) it.1 ∙ sym (ap (λ (v : Thing). set_thing p k xs v begin q.around q.state) it.1)

-- ---- an operator of a row, on what was made before or on its first argument

module _ (K : Known) (p : Place) (k : OpRow) (args : Args) (t : memory.Thing) (n : ℕ) (old : Lowering) (keeps : IsLowering old) (counts : CountsArgs args n) where
  abbrev Things : Ins (Thing × List Arg)
  Things q z y = a_thing.Stands q.run z.plan t y.0 × AreArgs (bags_of q.run z.plan) args y.1

  abbrev on_it : Row → Thing → List Arg → Walk Thing
  on_it r y xs = meaning.on_thing p k r y xs

  pub thing_refused : (e : LowerFault) → IsOperatorOf p k n (Err e) → Walked K (of_call t args a_thing (λ y xs. operator_call p k (unnamed xs) (λ r. meaning.on_thing p k r y xs))) old old (Err e)
  thing_refused e h = call_refused K p k n Things on_it old keeps (λ q z y is. counts (bags_of q.run z.plan) y.1 is.1) e h

  pub thing_set : (r : Row) (new : Lowering) (res : Result memory.Thing LowerFault) → IsCalled p k n r → r ≡ Set → Walked K (of_call t args a_thing (λ y xs. set_thing p k xs y p)) old new res
      → Walked K (of_call t args a_thing (λ y xs. operator_call p k (unnamed xs) (λ s. meaning.on_thing p k s y xs))) old new res
  thing_set r new res h is step =
      call_goes K p k n Things on_it old keeps (λ q z y is. counts (bags_of q.run z.plan) y.1 is.1) r new res (λ y xs. set_thing p k xs y p) h (λ y xs. ap (λ s. meaning.on_thing p k s y xs) is) step

  pub thing_other : (r : Row) (new : Lowering) (res : Result memory.Thing LowerFault) → IsCalled p k n r → IsOther r → Walked K (of_call t args a_thing (on_thing p k r)) old new res
      → Walked K (of_call t args a_thing (λ y xs. operator_call p k (unnamed xs) (λ s. meaning.on_thing p k s y xs))) old new res
  thing_other r new res h other step =
      call_goes K p k n Things on_it old keeps (λ q z y is. counts (bags_of q.run z.plan) y.1 is.1) r new res (λ y xs. on_thing p k r y xs) h (λ y xs. other_thing p k r y xs other) step

module _ (K : Known) (p : Place) (k : OpRow) (x : One) (args : Args) (n : ℕ) (old : Lowering) (keeps : IsLowering old) (counts : CountsArgs args n) where
  abbrev Ones : Ins (Arg × List Arg)
  Ones q z y = IsArg (bags_of q.run z.plan) x y.0 × AreArgs (bags_of q.run z.plan) args y.1

  abbrev on_one : Row → Arg → List Arg → Walk Thing
  on_one r y xs = on_argument p k r y xs

  pub one_refused : (e : LowerFault) → IsOperatorOf p k n (Err e) → Walked K (of_received x args (λ y xs. operator_call p k (unnamed xs) (λ r. on_argument p k r y xs))) old old (Err e)
  one_refused e h = call_refused K p k n Ones on_one old keeps (λ q z y is. counts (bags_of q.run z.plan) y.1 is.1) e h

  pub one_goes : (r s : Row) (new : Lowering) (res : Result memory.Thing LowerFault) → IsCalled p k n r → r ≡ s → Walked K (of_received x args (on_argument p k s)) old new res
      → Walked K (of_received x args (λ y xs. operator_call p k (unnamed xs) (λ q. on_argument p k q y xs))) old new res
  one_goes r s new res h is step =
      call_goes K p k n Ones on_one old keeps (λ q z y is. counts (bags_of q.run z.plan) y.1 is.1) r new res (λ y xs. on_argument p k s y xs) h (λ y xs. ap (λ q. on_argument p k q y xs) is) step

-- the room of a call with so many arguments
pub room_by_count : (k : OpRow) (args : Args) (n nodes : ℕ) (old new : PlanBuilder) → n ≡ unnamed (written_args args) → LeavesRoom nodes (ports_of k n) old new → LeavesRoom nodes (reads_in k args) old new
room_by_count k args n nodes old new is h = subst (λ m. LeavesRoom nodes (ports_of k m) old new) is h

-- ---- as many channels as were counted

as_counted : (k : OpRow) (args : Args) (v : Taken) → length v.ports.items ≡ args_ports k.args (unnamed (written_args args)) → 1 + length v.ports.items ≡ reads_in k args
as_counted k args v is = ap (λ n. 1 + n) is

pub inputs_taken : (k : OpRow) (r : Row) (args : Args) (v : Taken) → length v.ports.items ≡ args_ports k.args (unnamed (written_args args)) → takes_ports r (ports_of k (unnamed (written_args args))) ≡ true
    → takes_ports r (1 + length v.ports.items) ≡ true
inputs_taken k r args v is h = ap (takes_ports r) (as_counted k args v is) ∙ h

pub room_taken : (k : OpRow) (args : Args) (v : Taken) → length v.ports.items ≡ args_ports k.args (unnamed (written_args args)) → (old mid : Lowering) → HasRoom old.plan (reads_in k args) → Goes old mid
    → HasRoom mid.plan (1 + length v.ports.items)
room_taken k args v is old mid room g = subst (λ n. HasRoom mid.plan n) (sym (as_counted k args v is)) (room_kept (reads_in k args) old.plan mid.plan room (goes_keeps old mid g))

pub fed_as : (K : Known) (p : Place) (k : OpRow) (r : Row) (args : Args) (port : Port) (old mid : Lowering) → IsLowering old → PortReads old.plan port → (new : Lowering) (v : Taken) (res : Result memory.Thing LowerFault)
    → length v.ports.items ≡ args_ports k.args (unnamed (written_args args)) → Walked K (of_args args (a_taken r) (λ xs. take_args k r xs nothing_taken)) old mid (Ok v)
    → Used K 1 (1 + length v.ports.items) (of_applied p r port v) mid new res → Used K 1 (reads_in k args) (of_channel port args a_thing (λ c xs. with_channel p k r xs c)) old new res
fed_as K p k r args port old mid keeps reads new v res is one two =
    let P : ℕ → Type 0 = λ n. Used K 1 n (of_applied p r port v) mid new res in
    fed_given K p k r args port old mid keeps reads new v 1 (reads_in k args) res one (subst P (as_counted k args v is) two)

pub room_counted : (k : OpRow) (args : Args) (n m : ℕ) (b : PlanBuilder) → n ≡ unnamed (written_args args) → m ≡ ports_of k n → HasRoom b m → HasRoom b (reads_in k args)
room_counted k args n m b is counts room = subst (λ i. HasRoom b i) (counts ∙ ap (ports_of k) is) room
