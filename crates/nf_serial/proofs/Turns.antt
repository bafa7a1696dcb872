-- The ticket at hand of a run on one lane, event by event.
use Rattle.std.proofs.Common.{◌≡◌, ℕ, zero, suc, ◌+◌, ◌<◌, ◌≤◌, List, [], ◌∷◌, ◌++◌, Bool, true, false, cond, nat_lt, refl, ap, sym, ◌∙◌, subst, arith, ◌⊎◌, inl, inr, length, get_or, map}
use Rattle.std.specs.Prelude.{Option, Some, None, ◌==◌, Result, Ok, Err, OnOk, OnErr, IfOk}
use Rattle.std.proofs.lemmas.Bool.{cases_Bool}
use Rattle.std.proofs.lemmas.Bool.Decides.{nat_tests}
use Rattle.std.proofs.lemmas.List.{length_push}
use Rattle.nf_value.specs.Plain.{Plain}
use Rattle.nf_value.specs.View.{plain_of as plain}
use Rattle.nf_value.specs.declared.value.Value.{Value}
use Rattle.nf_value.specs.declared.fault.EvalFault.{EvalFault}
use Rattle.nf_value.specs.declared.fault.EvalRefusal.{EvalRefusal}
use Rattle.nf_stored.specs.Answers.{AnswersItem}
use Rattle.nf_job.specs.declared.report.Report.{Report}
use Rattle.nf_graph.specs.declared.node.Node.{Node}
use Rattle.nf_graph.specs.Node.{Kind, source, operator, process, PlainNode, node_at}
use Rattle.nf_graph.specs.Rules.{Outs, Rules}
use Rattle.nf_graph.specs.Meaning.{put, cost}
use Rattle.nf_graph.specs.WellMade.{plain_graph, plain_node}
use Rattle.nf_machine.specs.declared.event.Event.{Event}
use Rattle.nf_machine.specs.declared.event.Event.TheVariants as e
use Rattle.nf_machine.specs.declared.event.Cause.{Cause}
use Rattle.nf_machine.specs.declared.stop.Stop.{Stop}
use Rattle.nf_machine.specs.State as machine
use Rattle.nf_machine.specs.State.{Spot, State}
use Rattle.nf_machine.specs.Step.{Given, do_close, do_pass, inputs_of as inputs_in, limit, passed_on, step, ticket_at, take_at}
use Rattle.nf_machine.specs.Event.{answer_of, charge_stop}
use Rattle.nf_machine.specs.Legal.{IsOperatorKind, IsProcessKind}
use Rattle.nf_machine.specs.Legal as legal
use Rattle.nf_machine.specs.declared.event.Move.{Move}
use Rattle.nf_machine.specs.declared.event.Move.TheVariants as v
use Rattle.nf_flow.specs.Ready.{IsNext}
use Rattle.nf_flow.specs.Steps.{MayPass, MayTake}
use Rattle.nf_flight.specs.declared.ticket.Ticket.{Ticket}
use Rattle.nf_flight.specs.Ticket.{number_of, node_of, inputs_of, next_attempt}
use Rattle.nf_flow.specs.Seen.{Seen, plain_of, state_of, grown, take_of}
use Rattle.nf_flow.specs.Questions.{IsTicket, IsFlying}
use Rattle.nf_core.specs.Calls.{IsTask, GivesUp, EndsOrUp, IsAnswered}
use Rattle.nf_serial.specs.Serial.{IsLegalMove, IsIdle, IsAlone, HasItem, HasTask, IsBack}
use Rattle.nf_serial.proofs.Alone.{here, abort_idle, give_idle, start_alone, finish_idle, reuse_idle, finish_alone, reuse_alone}
use Rattle.nf_core.proofs.Seens.{event_in, state_grown}
use Rattle.nf_core.proofs.Orderly.{made}

-- ---- who is in flight

pub tickets_grown : (z f : Seen) (x : Event) → f ≡ grown z x → (state_of f).tickets ≡ (step (plain_of z) (state_of z) (event_in z x)).tickets
tickets_grown z f x is = ap (λ y. (state_of y).tickets) is ∙ ap (λ u. u.tickets) (state_grown z x)

pub alone_flying : (z : Seen) (t : Ticket) → IsAlone z t → IsFlying z t
alone_flying z t a = record { ticket = a.ticket; there = here a.ticket (state_of z).tickets (number_of t) a.alone a.is.number; is = a.is }

-- ---- moves

pub pass_stays : (s : State) (i k : ℕ) (x : Plain) → (do_pass s i k x).tickets ≡ s.tickets
pass_stays s i k x = by_test (nat_lt limit (s.charge + cost x)) where
  sp : Spot
  sp = passed_on (s.spots i) k

  by_test : (b : Bool) → (cond b (record s { spots = put s.spots i sp; charge = s.charge + cost x; stop = Some (charge_stop (s.charge + cost x)) })
      (record s { spots = put s.spots i (record sp { waiting = put sp.waiting k (sp.waiting k ++ x ∷ []) }); charge = s.charge + cost x })).tickets ≡ s.tickets
  by_test true = refl
  by_test false = refl

pub close_stays : (s : State) (i : ℕ) (r : Given) → (do_close s i r).tickets ≡ s.tickets
close_stays s i (Ok es) = refl
close_stays s i (Err f) = refl

pub halt_idle : (z f : Seen) → IsIdle z → f ≡ grown z e.Halt → IsIdle f
halt_idle z f idle is = tickets_grown z f e.Halt is ∙ idle

pub pass_idle : {A E : Type 0} (z f : Seen) (i : ℕ) (r : Result A E) → IsIdle z → OnOk r (f ≡ grown z (e.Pass i)) → OnErr r (f ≡ grown z e.Halt) → IsIdle f
pass_idle z f i (Ok v) idle ok err = tickets_grown z f (e.Pass i) ok ∙ (pass_stays (state_of z) _ _ _ ∙ idle)
pass_idle z f i (Err v) idle ok err = halt_idle z f idle err

pub close_idle : {A E : Type 0} (z f : Seen) (i : ℕ) (r : Result A E) → IsIdle z → OnOk r (f ≡ grown z (e.Close i)) → OnErr r (f ≡ grown z e.Halt) → IsIdle f
close_idle z f i (Ok v) idle ok err = tickets_grown z f (e.Close i) ok ∙ (close_stays (state_of z) i _ ∙ idle)
close_idle z f i (Err v) idle ok err = halt_idle z f idle err

-- what a legal move says, by its kind
pub legal_pass : (z : Seen) (m : Move) (port : ℕ) → m ≡ v.Pass port → IsLegalMove z m → MayPass z.graph (state_of z) port
legal_pass z m port at legal = subst (IsLegalMove z) at legal

pub legal_close : (z : Seen) (m : Move) (node : ℕ) → m ≡ v.Close node → IsLegalMove z m → legal.CloseIsLegal (plain_of z) (state_of z) node
legal_close z m node at legal = subst (IsLegalMove z) at legal

pub legal_take : (z : Seen) (m : Move) (node port place : ℕ) → m ≡ v.Take node port place → IsLegalMove z m → MayTake z.graph (state_of z) node port place
legal_take z m node port place at legal = subst (IsLegalMove z) at legal

-- the move that a flow offers is legal
pub ready_legal : (z : Seen) (m : Move) → IsNext z.graph (state_of z) m → IsLegalMove z m
ready_legal z (v.Pass port) h = h
ready_legal z (v.Take node port place) h = h.1
ready_legal z (v.Close node) h = h.2

-- ---- takes

-- the one ticket is the one that is found
pub one_found : (ts : List machine.Ticket) (m k : machine.Ticket) (n : ℕ) → ts ≡ m ∷ [] → ticket_at n ts ≡ Some k → k ≡ m
one_found ts m k n one found = elim (cases_Bool (m.number == n)) [
  | inl e ↦ (let a : Some m ≡ Some k = rw (one, e) at found in let b : k ≡ m = cc in b)
  | inr e ↦ (let a : None ≡ Some k = rw (one, e) at found in absurd (cc))
]

pub one_input : (node : PlainNode) (kind : Kind) (sp : Spot) (x : Plain) → IsOperatorKind kind → inputs_in node kind sp x ≡ x ∷ []
one_input node (source items) sp x h = absurd h
one_input node (operator op) sp x h = refl
one_input node (process queue) sp x h = absurd h

pub takers : (node : PlainNode) (kind : Kind) (sp : Spot) (port place : ℕ) → legal.MayTake node kind sp port place → IsOperatorKind kind ⊎ IsProcessKind kind
takers node (source items) sp port place h = absurd h
takers node (operator op) sp port place h = inl tt
takers node (process queue) sp port place h = inr tt

-- what is in flight after a Take of an idle run
pub took : (z f : Seen) (node port place : ℕ) (t : Ticket) → IsIdle z → MayTake z.graph (state_of z) node port place → f ≡ grown z (take_of z node port place) → IsFlying f t
    → HasItem f t ⊎ HasTask f t
took z f node port place t idle may is fly = by_kind (takers n n.kind sp port place may.ready) where
  n : PlainNode
  n = node_at (plain_of z) node

  sp : Spot
  sp = (state_of z).spots node

  k : machine.Ticket
  k = made (state_of z) node (take_at (plain_of z) (state_of z) node port place)

  tickets : (state_of f).tickets ≡ k ∷ []
  tickets = tickets_grown z f (take_of z node port place) is ∙ ap (λ ts. ts ++ k ∷ []) idle

  found : fly.ticket ≡ k
  found = one_found (state_of f).tickets k fly.ticket (number_of t) tickets fly.there

  is_k : IsTicket t k
  is_k = subst (IsTicket t) found fly.is

  alone : IsAlone f t
  alone = record { ticket = k; alone = tickets; is = is_k }

  there : node_at (plain_of f) (node_of t) ≡ n
  there = ap (λ (y : Seen). node_at (plain_of y) (node_of t)) is ∙ ap (node_at (plain_of z)) is_k.node

  by_kind : IsOperatorKind n.kind ⊎ IsProcessKind n.kind → HasItem f t ⊎ HasTask f t
  by_kind (inl op) = inl (record {
    alone = alone;
    kind = subst (λ (m : PlainNode). IsOperatorKind m.kind) (sym there) op;
    item = is_k.inputs ∙ one_input n n.kind sp _ op;
  })
  by_kind (inr task) = inr (record { alone = alone; task = subst (λ (m : PlainNode). IsProcessKind m.kind) (sym there) task })

pub took_ticket : {E : Type 0} (z f : Seen) (node port place : ℕ) (r : Result Ticket E) (t : Ticket) → r ≡ Ok t → IsIdle z → MayTake z.graph (state_of z) node port place → OnOk r (f ≡ grown z (take_of z node port place)) → IfOk r (IsFlying f)
    → HasItem f t ⊎ HasTask f t
took_ticket z f node port place r t at idle may ok fly =
    took z f node port place t idle may (subst (λ o. OnOk o (f ≡ grown z (take_of z node port place))) at ok) (subst (λ o. IfOk o (IsFlying f)) at fly)

pub took_none : {T E : Type 0} (z f : Seen) (r : Result T E) (x : E) → r ≡ Err x → IsIdle z → OnErr r (f ≡ grown z e.Halt) → IsIdle f
took_none z f r x at idle err = halt_idle z f idle (subst (λ o. OnErr o (f ≡ grown z e.Halt)) at err)

-- ---- whose ticket it is

pub plain_at : (nodes : List Node) (i : ℕ) (n : Node) → n ≡ get_or nodes i n → i < length nodes → node_at (plain_graph nodes) i ≡ plain_node n
plain_at [] i n is l = absurd (omega arith)
plain_at (m ∷ nodes) zero n is l = ap plain_node (sym is)
plain_at (m ∷ nodes) (suc i) n is l = plain_at nodes i n is (omega arith)

past_all : (nodes : List Node) (i : ℕ) → length nodes ≤ i → (node_at (plain_graph nodes) i).kind ≡ source []
past_all [] i l = refl
past_all (m ∷ nodes) zero l = absurd (omega arith)
past_all (m ∷ nodes) (suc i) l = past_all nodes i (omega arith)

pub kind_within : (nodes : List Node) (i : ℕ) → IsOperatorKind (node_at (plain_graph nodes) i).kind ⊎ IsProcessKind (node_at (plain_graph nodes) i).kind → i < length nodes
kind_within nodes i kind = elim (cases_Bool (nat_lt i (length nodes))) [
  | inl e ↦ grind (arith, nat_tests, e)
  | inr e ↦ (let past : length nodes ≤ i = grind (arith, nat_tests, e) in absurd (none kind (past_all nodes i past)))
] where
  none : IsOperatorKind (node_at (plain_graph nodes) i).kind ⊎ IsProcessKind (node_at (plain_graph nodes) i).kind → (node_at (plain_graph nodes) i).kind ≡ source [] → ⊥
  none (inl op) is = subst IsOperatorKind is op
  none (inr task) is = subst IsProcessKind is task

pub node_within : (z : Seen) (t : Ticket) → HasItem z t ⊎ HasTask z t → node_of t < length z.graph
node_within z t (inl i) = kind_within z.graph (node_of t) (inl i.kind)
node_within z t (inr h) = kind_within z.graph (node_of t) (inr h.task)

pub not_both : (kind : Kind) → IsOperatorKind kind → IsProcessKind kind → ⊥
not_both (source items) a b = a
not_both (operator op) a b = b
not_both (process queue) a b = a

pub item_of_operator : (z : Seen) (t : Ticket) (n : Node) → HasItem z t ⊎ HasTask z t → n ≡ get_or z.graph (node_of t) n → IsOperatorKind (plain_node n).kind → HasItem z t
item_of_operator z t n (inl i) is op = i
item_of_operator z t n (inr h) is op =
    let there = plain_at z.graph (node_of t) n is (node_within z t (inr h)) in
    absurd (not_both (node_at (plain_of z) (node_of t)).kind (subst (λ (m : PlainNode). IsOperatorKind m.kind) (sym there) op) h.task)

pub task_of_process : (z : Seen) (t : Ticket) (n : Node) → HasItem z t ⊎ HasTask z t → n ≡ get_or z.graph (node_of t) n → (IsOperatorKind (plain_node n).kind → ⊥) → HasTask z t
task_of_process z t n (inr h) is other = h
task_of_process z t n (inl i) is other =
    let there = plain_at z.graph (node_of t) n is (node_within z t (inl i)) in
    absurd (other (subst (λ (m : PlainNode). IsOperatorKind m.kind) there i.kind))

pub index_there : (z f : Seen) (t : Ticket) (graph nodes : List Node) (i : ℕ) → f ≡ z → graph ≡ f.graph → nodes ≡ graph → i ≡ node_of t → HasItem z t ⊎ HasTask z t → i < length nodes
index_there z f t graph nodes i flow at_graph at_nodes at_node held =
    subst (λ k. k < length nodes) (sym at_node) (subst (λ (ns : List Node). node_of t < length ns) (sym (at_nodes ∙ (at_graph ∙ ap (λ (y : Seen). y.graph) flow))) (node_within z t held))

pub node_there : (z f : Seen) (t : Ticket) (graph nodes : List Node) (i : ℕ) (n : Node) → f ≡ z → graph ≡ f.graph → nodes ≡ graph → i ≡ node_of t → n ≡ get_or nodes i n → n ≡ get_or z.graph (node_of t) n
node_there z f t graph nodes i n flow at_graph at_nodes at_node is =
    subst (λ k. n ≡ get_or z.graph k n) at_node (subst (λ (ns : List Node). n ≡ get_or ns i n) (at_nodes ∙ (at_graph ∙ ap (λ (y : Seen). y.graph) flow)) is)

-- ---- an operator's answer

pub first_plain : (xs : List Value) (x : Plain) (v : Value) → map plain xs ≡ x ∷ [] → v ≡ get_or xs 0 v → plain v ≡ x
first_plain [] x v all is = absurd (cc)
first_plain (y ∷ ys) x v all is = let a : plain y ≡ x = cc in ap plain is ∙ a

pub one_item : (xs : List Value) (ins : List Plain) (x : Plain) → map plain xs ≡ ins → ins ≡ x ∷ [] → 0 < length xs
one_item [] ins x all one = let a : [] ≡ x ∷ [] = all ∙ one in absurd (cc)
one_item (y ∷ ys) ins x all one = omega arith

pub answered_so : (R : Rules) (z : Seen) (t : Ticket) (answer : Result Value EvalFault) (i : HasItem z t) → answer_of answer ≡ R.answer (node_of t) i.alone.ticket.take.item → IsAnswered R z t answer
answered_so R z t answer i by = record {
  ticket = i.alone.ticket;
  there = here i.alone.ticket (state_of z).tickets (number_of t) i.alone.alone i.alone.is.number;
  kind = subst (λ n. IsOperatorKind (node_at (plain_of z) n).kind) i.alone.is.node i.kind;
  by_rule = by ∙ ap (λ n. R.answer n i.alone.ticket.take.item) i.alone.is.node;
}

-- the answer without its want of memory is the rules'
pub answered_then : {E : Type 0} (R Q : Rules) (z : Seen) (t : Ticket) (node : ℕ) (items : List Value) (ins : List Plain) (item : Value) (told : Result Value EvalRefusal) (r : Result (Result Value EvalFault) E) (i : HasItem z t) → Q ≡ R → node ≡ node_of t
    → map plain items ≡ ins → ins ≡ inputs_of t → item ≡ get_or items 0 item → AnswersItem (Q.answer node (plain item)) told
    → ((due : Result Plain EvalFault) → AnswersItem due told → IfOk r (λ a. answer_of a ≡ due)) → IfOk r (IsAnswered R z t)
answered_then R Q z t node items ins item told (Err x) i same at_node all at_ins is due settled = tt
answered_then R Q z t node items ins item told (Ok a) i same at_node all at_ins is due settled =
    let x : plain item ≡ i.alone.ticket.take.item = first_plain items i.alone.ticket.take.item item (all ∙ (at_ins ∙ i.item)) is in
    answered_so R z t a i (settled (Q.answer node (plain item)) due ∙ rw (at_node, x, same) refl)

-- ---- tickets that come back, start or are given up

pub abort_alone : (z f : Seen) (t : Ticket) (cause : Option Stop) → IsAlone z t → f ≡ grown z (e.Abort (number_of t) cause) → IsIdle f
abort_alone z f t cause a is = tickets_grown z f (e.Abort (number_of t) cause) is ∙ abort_idle (plain_of z) (state_of z) (number_of t) a.ticket a.alone a.is.number _

pub up_idle : (z f : Seen) (t : Ticket) → IsAlone z t → GivesUp z t f → IsIdle f
up_idle z f t a up = abort_alone z f t up.cause a up.is

pub gave_idle : (z f : Seen) (t : Ticket) (answer : Result Value EvalFault) → IsAlone z t → (f ≡ grown z (e.Give (number_of t) answer)) ⊎ GivesUp z t f → IsIdle f
gave_idle z f t answer a (inl is) = tickets_grown z f (e.Give (number_of t) answer) is ∙ give_idle (plain_of z) (state_of z) (number_of t) a.ticket a.alone a.is.number _
gave_idle z f t answer a (inr up) = up_idle z f t a up

pub task_on : (z f : Seen) (t : Ticket) (x : Event) → f ≡ grown z x → IsTask z t → IsTask f t
task_on z f t x is task = subst (λ y. IsTask y t) (sym is) task

pub start_task : (z f : Seen) (t : Ticket) (cause : Cause) → HasTask z t → f ≡ grown z (e.Start (number_of t) cause) → HasTask f t
start_task z f t cause h is = record {
  alone = record {
    ticket = record k { started = true };
    alone = tickets_grown z f (e.Start (number_of t) cause) is ∙ start_alone (plain_of z) (state_of z) (number_of t) k h.alone.alone i.number cause;
    is = record { number = i.number; node = i.node; port = i.port; inputs = i.inputs; n = i.n; attempt = i.attempt };
  };
  task = task_on z f t (e.Start (number_of t) cause) is h.task;
} where
  k : machine.Ticket
  k = h.alone.ticket

  i : IsTicket t k
  i = h.alone.is

-- the same take with one report more
pub again_is : (t : Ticket) (k : machine.Ticket) (r : Report) → IsTicket t k → IsTicket (next_attempt t) (record k { told = k.told ++ r ∷ []; started = false })
again_is t k r i = record {
  number = i.number;
  node = i.node;
  port = i.port;
  inputs = i.inputs;
  n = i.n;
  attempt = (let a = i.attempt in let l = length_push k.told r in omega (arith, a, l));
}

-- a ticket that came back for its next attempt is a task's, alone in flight
pub again_back : (z f : Seen) (t u : Ticket) (x : Event) (r : Report) (h : HasTask z t) → f ≡ grown z x → u ≡ next_attempt t
    → (step (plain_of z) (state_of z) (event_in z x)).tickets ≡ record h.alone.ticket { told = h.alone.ticket.told ++ r ∷ []; started = false } ∷ [] → HasTask f u
again_back z f t u x r h is next tickets = subst (HasTask f) (sym next) (record {
  alone = record {
    ticket = record h.alone.ticket { told = h.alone.ticket.told ++ r ∷ []; started = false };
    alone = tickets_grown z f x is ∙ tickets;
    is = again_is t h.alone.ticket r h.alone.is;
  };
  task = task_on z f t x is h.task;
})

pub finish_back : (z f : Seen) (t : Ticket) (r : Report) (outs : Outs) (back : Option Ticket) → HasTask z t → EndsOrUp z t (e.Finish (number_of t) r outs) outs back f → IsBack f back
finish_back z f t r outs None h (inl ends) =
    tickets_grown z f (e.Finish (number_of t) r outs) ends.is ∙ finish_idle (plain_of z) (state_of z) (number_of t) h.alone.ticket h.alone.alone h.alone.is.number r outs ends.again
finish_back z f t r outs None h (inr up) = up_idle z f t h.alone up
finish_back z f t r outs (Some u) h ends =
    again_back z f t u (e.Finish (number_of t) r outs) r h ends.is ends.again.1 (finish_alone (plain_of z) (state_of z) (number_of t) h.alone.ticket h.alone.alone h.alone.is.number r outs ends.again.0)

pub reuse_back : (z f : Seen) (t : Ticket) (r : Report) (outs : Outs) (back : Option Ticket) → HasTask z t → EndsOrUp z t (e.Reuse (number_of t) r outs) outs back f → IsBack f back
reuse_back z f t r outs None h (inl ends) =
    tickets_grown z f (e.Reuse (number_of t) r outs) ends.is ∙ reuse_idle (plain_of z) (state_of z) (number_of t) h.alone.ticket h.alone.alone h.alone.is.number r outs ends.again
reuse_back z f t r outs None h (inr up) = up_idle z f t h.alone up
reuse_back z f t r outs (Some u) h ends =
    again_back z f t u (e.Reuse (number_of t) r outs) r h ends.is ends.again.1 (reuse_alone (plain_of z) (state_of z) (number_of t) h.alone.ticket h.alone.alone h.alone.is.number r outs ends.again.0)
