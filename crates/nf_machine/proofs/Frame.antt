-- What stays while another node moves.
use Rattle.std.proofs.Common.{◌≡◌, ℕ, ◌+◌, ◌<◌, ◌≤◌, List, [], ◌∷◌, ◌++◌, length, take, get_or, Bool, true, false, ◌&&◌, ◌||◌, refl, ap, sym, ◌∙◌, subst, arith, length-append, append-nil}
use Rattle.std.specs.Prelude.{◌==◌, Option}
use Rattle.std.specs.List.{AllByRecursion}
use Rattle.std.proofs.lemmas.Bool.{true≢false}
use Rattle.std.proofs.lemmas.List.{take-append-le, get_or_append_left}
use Rattle.nf_value.specs.Plain.{Plain, null}
use Rattle.nf_opstream.proofs.Tally.{one_if, passes, tally_same}
use Rattle.nf_graph.specs.declared.port.Port.{Port}
use Rattle.nf_graph.specs.Rules.{Rules}
use Rattle.nf_graph.specs.Node.{Kind, source, operator, process, PlainNode, port_at, node_at}
use Rattle.nf_graph.specs.Meaning.{put}
use Rattle.nf_graph.proofs.Lists.{put_all, filled_same}
use Rattle.nf_machine.specs.State.{Take, Ticket, Spot, feed}
use Rattle.nf_machine.specs.History.{ClosedWell}
use Rattle.nf_machine.proofs.Good.{flying, seen, PortsOk, FlightOk, feed_head, ProcessTake, Formed, TakesOk, Whole, SpotOk, TicketOk}

pub record More (xs ys : List Plain) : Type 0 where
  pub rest : List Plain
  pub is : ys ≡ xs ++ rest

-- what a node emitted only grows, and a closed node stays as it is
pub record Grows (E F : ℕ → Spot) : Type 0 where
  pub emitted : (i out : ℕ) → More ((E i).emitted out) ((F i).emitted out)
  pub frozen : (i : ℕ) → (E i).closed ≡ true → F i ≡ E i

pub no_more : (xs : List Plain) → More xs xs
no_more xs = record { rest = []; is = sym (append-nil xs) }

pub grows_put : (E : ℕ → Spot) (i : ℕ) (sp : Spot) → (E i).closed ≡ false → ((out : ℕ) → More ((E i).emitted out) (sp.emitted out)) → Grows E (put E i sp)
grows_put E i sp h m = record {
  emitted = λ j out. put_all (λ j s. More ((E j).emitted out) (s.emitted out)) E i sp (m out) (λ j n. no_more ((E j).emitted out)) j;
  frozen = put_all (λ j s. (E j).closed ≡ true → s ≡ E j) E i sp (λ c. absurd (true≢false (sym c ∙ h))) (λ j n c. refl);
}

pub take_same : (n : ℕ) (xs ys : List Plain) → n ≤ length xs → More xs ys → take n ys ≡ take n xs
take_same n xs ys h m = rw m.is (take-append-le n xs m.rest h)

pub more_long : {xs ys : List Plain} → More xs ys → length xs ≤ length ys
more_long {xs} {ys} m = rw m.is (omega (arith, length-append xs m.rest))

pub more_head : {xs ys : List Plain} → More xs ys → 0 < length xs → get_or ys 0 null ≡ get_or xs 0 null
more_head {xs} {ys} m h = rw m.is (get_or_append_left xs m.rest null 0 h)

pub or_kept : (a b c : Bool) → (b ≡ true → a ≡ true) → (b || c) ≡ true → (a || c) ≡ true
or_kept true b c w s = refl
or_kept false true c w s = absurd (true≢false (sym (w refl)))
or_kept false false c w s = s

module _ (E F : ℕ → Spot) (grows : Grows E F) where
  pub feed_more : (p : Port) → More (feed E p) (feed F p)
  feed_more p = grows.emitted p.from p.out

  pub process_take_kept : (nd : PlainNode) (q : Option ℕ) (t : Take) → ProcessTake E nd q t → ProcessTake F nd q t
  process_take_kept nd q t h = record {
    slot = h.slot;
    inputs = h.inputs ∙ filled_same 0 nd.ports (feed_head E nd) (feed_head F nd) t.item (λ j l s. let i : 0 + j ≡ j = omega arith in rw i (sym (more_head (feed_more (port_at nd j)) (h.fed j l s))));
    fed = λ k l s. omega (arith, h.fed k l s, more_long (feed_more (port_at nd k)));
  }

  pub formed_kept : (nd : PlainNode) (kind : Kind) (t : Take) → Formed E nd kind t → Formed F nd kind t
  formed_kept nd (source items) t h = h
  formed_kept nd (operator op) t h = h
  formed_kept nd (process q) t h = process_take_kept nd q t h

  pub seen_kept : (nd : PlainNode) (sp : Spot) (k : ℕ) → sp.passed k ≤ length (feed E (port_at nd k)) → seen F nd sp k ≡ seen E nd sp k
  seen_kept nd sp k h = take_same (sp.passed k) (feed E (port_at nd k)) (feed F (port_at nd k)) h (feed_more (port_at nd k))

  pub ports_kept : (nd : PlainNode) (going going' : Bool) (sp : Spot) → (going' ≡ true → going ≡ true) → PortsOk E nd going sp → PortsOk F nd going' sp
  ports_kept nd going going' sp w h = record {
    fits = λ k. omega (arith, h.fits k, more_long (feed_more (port_at nd k)));
    most = λ k p. rw (seen_kept nd sp k (h.fits k)) (h.most k p);
    all = λ s k p. rw (seen_kept nd sp k (h.fits k)) (h.all (or_kept going going' sp.closed w s) k p);
    held = λ s i k single. rw (seen_kept nd sp k (h.fits k)) (h.held (w s) i k single);
  }

pub each_map : {A : Type 0} (P Q : A → Type 0) → ((x : A) → P x → Q x) → (xs : List A) → AllByRecursion P xs → AllByRecursion Q xs
each_map P Q f [] h = tt
each_map P Q f (x ∷ xs) h = (f x h.0, each_map P Q f xs h.1)

-- no ticket of node j came or went
pub record SameFlight (j : ℕ) (ts us : List Ticket) : Type 0 where
  pub at : (p : Take → Bool) → flying j p us ≡ flying j p ts

pub and-true : (b : Bool) → (b && true) ≡ b
and-true true = refl
and-true false = refl

pub same_nodes : (j : ℕ) (ts us : List Ticket) → SameFlight j ts us → passes (λ t. t.node == j) us ≡ passes (λ t. t.node == j) ts
same_nodes j ts us h =
    let e = λ (vs : List Ticket). tally_same (λ t. one_if ((t.node == j) && true)) (λ t. one_if (t.node == j)) (λ t. ap one_if (and-true (t.node == j))) vs in
    sym (e us) ∙ h.at (λ t. true) ∙ e ts

module _ (g : List PlainNode) (R : Rules) (E F : ℕ → Spot) (grows : Grows E F) where
  pub whole_kept : (ts us : List Ticket) (j : ℕ) (sp : Spot) → SameFlight j ts us → Whole g E ts j sp → Whole g F us j sp
  whole_kept ts us j sp same h = record {
    producers = λ k l. (let pr = h.producers k l in
        let e : F (port_at (node_at g j) k).from ≡ E (port_at (node_at g j) k).from = grows.frozen (port_at (node_at g j) k).from pr.0 in
        subst (λ z. (z.closed ≡ true) × ClosedWell (node_at g (port_at (node_at g j) k).from).kind z) (sym e) pr);
    passed = λ k l. (let pr = h.producers k l in
        let e : F (port_at (node_at g j) k).from ≡ E (port_at (node_at g j) k).from = grows.frozen (port_at (node_at g j) k).from pr.0 in
        h.passed k l ∙ ap (λ (z : Spot). length (z.emitted (port_at (node_at g j) k).out)) (sym e));
    flight = same_nodes j ts us same ∙ h.flight;
    done = h.done;
  }

  pub flight_kept : (ts us : List Ticket) (going going' : Bool) (j : ℕ) (sp : Spot) → (going' ≡ true → going ≡ true) → SameFlight j ts us → FlightOk ts going j sp → FlightOk us going' j sp
  flight_kept ts us going going' j sp w same h = record {
    most = λ p. rw (same.at p) (h.most p);
    all = λ s p. rw (same.at p) (h.all (or_kept going going' sp.closed w s) p);
  }

  pub takes_kept : (nd : PlainNode) (sp : Spot) → TakesOk E nd sp → TakesOk F nd sp
  takes_kept nd sp h = record {
    formed = each_map (Formed E nd nd.kind) (Formed F nd nd.kind) (formed_kept E F grows nd nd.kind) sp.taken h.formed;
    numbers = h.numbers;
    once = h.once;
  }

  pub spot_kept : (ts us : List Ticket) (going going' : Bool) (j : ℕ) (sp : Spot) → (going' ≡ true → going ≡ true) → SameFlight j ts us → SpotOk g R E ts going j sp → SpotOk g R F us going' j sp
  spot_kept ts us going going' j sp w same h = record {
    ports = ports_kept E F grows (node_at g j) going going' sp w h.ports;
    flight = flight_kept ts us going going' j sp w same h.flight;
    takes = takes_kept (node_at g j) sp h.takes;
    made = h.made;
    clean = λ a c. h.clean (w a) c;
    whole = λ c. whole_kept ts us j sp same (h.whole c);
    quiet = λ a. h.quiet (w a);
  }

  pub ticket_kept : (t : Ticket) → TicketOk g R E t → TicketOk g R F t
  ticket_kept t h = record { formed = formed_kept E F grows (node_at g t.node) (node_at g t.node).kind t.take h.formed; again = h.again; job = h.job }

  pub tickets_kept : (ts : List Ticket) → AllByRecursion (TicketOk g R E) ts → AllByRecursion (TicketOk g R F) ts
  tickets_kept ts h = each_map (TicketOk g R E) (TicketOk g R F) ticket_kept ts h

pub unmoved : (E : ℕ → Spot) (i : ℕ) (sp : Spot) → sp.emitted ≡ (E i).emitted → (p : Port) → feed (put E i sp) p ≡ feed E p
unmoved E i sp e p = put_all (λ j z. z.emitted p.out ≡ (E j).emitted p.out) E i sp (ap (λ (f : ℕ → List Plain). f p.out) e) (λ j n. refl) p.from
