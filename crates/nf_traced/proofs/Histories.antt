-- What is read of a whole history.
use Rattle.std.proofs.Common.{◌≡◌, ℕ, ◌+◌, ◌<◌, ◌≤◌, List, [], ◌∷◌, ◌++◌, map, length, get_or, drop, Bool, true, false, ◌&&◌, refl, ap, sym, ◌∙◌, subst, arith, append-nil}
use Rattle.std.specs.Prelude.{◌==◌, Option}
use Rattle.std.proofs.lemmas.List.{append_assoc, drop_more, drop_all, map-append}
use Rattle.nf_job.specs.declared.report.Report.{Report}
use Rattle.nf_graph.specs.Rules.{Rules, IsRules, Outs}
use Rattle.nf_graph.specs.Node.{PlainNode}
use Rattle.nf_machine.specs.declared.event.Event.{Event}
use Rattle.nf_machine.specs.declared.event.Event.TheVariants as e
use Rattle.nf_machine.specs.Event.{PlainEvent, PlainStop, event_of, taking, finish, reuse, abort}
use Rattle.nf_machine.specs.State.{State, opening}
use Rattle.nf_machine.specs.Step.{step}
use Rattle.nf_machine.specs.Legal.{IsLegal}
use Rattle.nf_machine.specs.History.{IsLawful}
use Rattle.nf_flow.specs.Seen.{Seen, plain_of, events_of}
use Rattle.nf_flow.specs.Questions.{is_again}
use Rattle.nf_trace.specs.declared.task.TaskStatus.{TaskStatus}
use Rattle.nf_trace.specs.declared.task.TaskStatus.TheVariants.{Cached, Aborted}
use Rattle.nf_traced.specs.declared.taken.Taken.{Taken}
use Rattle.nf_traced.specs.Takes.{IsProperRun, came_of, ended_as, new_take, taken_by, takes_of}
use Rattle.nf_traced.specs.Reading.{AreFew, Notes, ReadsOn, noted}
use Rattle.nf_traced.proofs.Came.{IsSilent, Tells, all_came, all_noted, all_same}
use Rattle.nf_traced.proofs.Flying.{Flying, IsElse, abort_flies, else_flies, finish_flies, reuse_flies, taken_flies}

-- What was read of the events before these: with what comes of the takes in them it is all that came of the run's takes
pub record KeepsSoFar (z : Seen) (rest : List Event) (takes : List Taken) : Type 0 where
  pub rules : Rules
  pub proper : IsRules rules
  pub now : State
  pub flying : Flying now takes
  pub lawful : IsLawful (plain_of z) rules now (map (event_of (plain_of z)) rest)
  pub whole : map (λ y. came_of y (map (event_of (plain_of z)) rest)) takes ++ takes_of (map (event_of (plain_of z)) rest) ≡ takes_of (events_of z)

-- one event more
pub record Reads (g : List PlainNode) (s : State) (e : PlainEvent) (rest : List PlainEvent) (old new : List Taken) : Type 0 where
  pub flying : Flying (step g s e) new
  pub same : map (λ y. came_of y (e ∷ rest)) old ++ takes_of (e ∷ rest) ≡ map (λ y. came_of y rest) new ++ takes_of rest

-- ---- an event that ends an attempt or gives it up

finish_tells : (t : ℕ) (r : Report) (outs : Outs) → Tells (finish t r outs) t (is_again outs) (ended_as r.exit outs)
finish_tells t r outs = record { retry = λ u. refl; status = λ u was. refl }

reuse_tells : (t : ℕ) (r : Report) (outs : Outs) → Tells (reuse t r outs) t (is_again outs) (Cached r.exit)
reuse_tells t r outs = record { retry = λ u. refl; status = λ u was. refl }

and_no : (b : Bool) → false ≡ b && false
and_no true = refl
and_no false = refl

abort_tells : (t : ℕ) (cause : Option PlainStop) → Tells (abort t cause) t false Aborted
abort_tells t cause = record { retry = λ u. and_no (t == u); status = λ u was. refl }

notes_same : (e : PlainEvent) (t : ℕ) (again : Bool) (st : TaskStatus) (old : List Taken) (rest : List PlainEvent) → Tells e t again st → taken_by e rest ≡ []
    → map (λ y. came_of y (e ∷ rest)) old ++ takes_of (e ∷ rest) ≡ map (λ y. came_of y rest) (map (noted t again st) old) ++ takes_of rest
notes_same e t again st old rest tells none =
    ap (λ ys. ys ++ (taken_by e rest ++ takes_of rest)) (all_noted e t again st old rest tells)
    ∙ ap (λ ys. map (λ y. came_of y rest) (map (noted t again st) old) ++ (ys ++ takes_of rest)) none

reads_noted : (g : List PlainNode) (s : State) (e : PlainEvent) (t : ℕ) (again : Bool) (st : TaskStatus) (rest : List PlainEvent) (old new : List Taken) → Tells e t again st
    → taken_by e rest ≡ [] → Flying s old → Notes t again st old new → Flying (step g s e) (map (noted t again st) old) → Reads g s e rest old new
reads_noted g s e t again st rest old new tells none h notes flies =
    let is : new ≡ map (noted t again st) old = notes h.numbered in
    subst (Reads g s e rest old) (sym is) (record { flying = flies; same = notes_same e t again st old rest tells none })

-- ---- a take

reads_take : (g : List PlainNode) (s : State) (i port place t n : ℕ) (rest : List PlainEvent) (old new : List Taken) → t ≡ s.next → Flying s old → new ≡ old ++ new_take t i n ∷ []
    → Reads g s (taking i port place t n) rest old new
reads_take g s i port place t n rest old new is h more =
    let e : PlainEvent = taking i port place t n in
    let x : Taken = came_of (new_take t i n) rest in
    subst (Reads g s e rest old) (sym more) (record {
      flying = taken_flies g s old i port place t n is h;
      same =
          ap (λ ys. ys ++ (x ∷ [] ++ takes_of rest)) (all_same e old rest (record { retry = λ u. refl; status = λ u was. refl }))
          ∙ sym (append_assoc (map (λ y. came_of y rest) old) (x ∷ []) (takes_of rest))
          ∙ ap (λ ys. ys ++ takes_of rest) (sym (map-append (λ y. came_of y rest) old (new_take t i n ∷ [])));
    })

-- ---- any other event

reads_else : (g : List PlainNode) (R : Rules) (s : State) (e : PlainEvent) (rest : List PlainEvent) (old new : List Taken) → IsElse e → IsSilent e → taken_by e rest ≡ []
    → IsLegal g R s e → Flying s old → new ≡ old → Reads g s e rest old new
reads_else g R s e rest old new other silent none legal h is =
    subst (Reads g s e rest old) (sym is) (record {
      flying = else_flies old g R s e other legal h;
      same = ap (λ ys. ys ++ (taken_by e rest ++ takes_of rest)) (all_same e old rest silent) ∙ ap (λ ys. map (λ y. came_of y rest) old ++ (ys ++ takes_of rest)) none;
    })

-- ---- all events

reads : (g : List PlainNode) (R : Rules) (s : State) (x : Event) (rest : List PlainEvent) (old new : List Taken) → IsRules R → IsLegal g R s (event_of g x) → Flying s old → ReadsOn x old new
    → Reads g s (event_of g x) rest old new
reads g R s (e.Take i port place t n) rest old new rules legal h on = reads_take g s i port place t n rest old new legal.ticket h on
reads g R s (e.Finish t r outs) rest old new rules legal h on =
    reads_noted g s (finish t r outs) t (is_again outs) (ended_as r.exit outs) rest old new (finish_tells t r outs) refl h on (finish_flies g R s old t (ended_as r.exit outs) r outs rules legal h)
reads g R s (e.Reuse t r outs) rest old new rules legal h on =
    reads_noted g s (reuse t r outs) t (is_again outs) (Cached r.exit) rest old new (reuse_tells t r outs) refl h on (reuse_flies g R s old t (Cached r.exit) r outs rules legal h)
reads g R s (e.Abort t cause) rest old new rules legal h on =
    reads_noted g s (event_of g (e.Abort t cause)) t false Aborted rest old new (abort_tells t _) refl h on (abort_flies g R s old t Aborted _ legal h)
reads g R s (e.Pass port) rest old new rules legal h on =
    reads_else g R s (event_of g (e.Pass port)) rest old new tt (record { retry = λ u. refl; status = λ u was. refl }) refl legal h on
reads g R s (e.Give t a) rest old new rules legal h on =
    reads_else g R s (event_of g (e.Give t a)) rest old new tt (record { retry = λ u. refl; status = λ u was. refl }) refl legal h on
reads g R s (e.Start t cause) rest old new rules legal h on =
    reads_else g R s (event_of g (e.Start t cause)) rest old new tt (record { retry = λ u. refl; status = λ u was. refl }) refl legal h on
reads g R s (e.Close node) rest old new rules legal h on =
    reads_else g R s (event_of g (e.Close node)) rest old new tt (record { retry = λ u. refl; status = λ u was. refl }) refl legal h on
reads g R s e.Halt rest old new rules legal h on =
    reads_else g R s (event_of g e.Halt) rest old new tt (record { retry = λ u. refl; status = λ u was. refl }) refl legal h on

-- ---- the loop

pub keeps_first : (z : Seen) (history : List Event) (takes : List Taken) → IsProperRun z → history ≡ z.history → takes ≡ [] → KeepsSoFar z (drop 0 history) takes
keeps_first z history takes run is none =
    subst (λ (v : List Taken). KeepsSoFar z (drop 0 history) v) (sym none) (subst (λ (h : List Event). KeepsSoFar z (drop 0 h) []) (sym is) (record {
      rules = run.rules;
      proper = run.proper;
      now = opening (plain_of z);
      flying = record { next = refl; numbered = tt; few = tt; once = λ t. omega arith; each = tt };
      lawful = run.lawful;
      whole = refl;
    }))

pub keeps_next : (z : Seen) (history : List Event) (i : ℕ) (x : Event) (old new : List Taken) → i < length history → x ≡ get_or history i x → KeepsSoFar z (drop i history) old
    → ReadsOn x old new → KeepsSoFar z (drop (i + 1) history) new
keeps_next z history i x old new l is keeps on =
    let rest : List Event = drop (i + 1) history in
    let split : drop i history ≡ x ∷ rest = drop_more history i x l ∙ ap (λ y. y ∷ rest) (sym is) in
    let k : KeepsSoFar z (x ∷ rest) old = subst (λ (h : List Event). KeepsSoFar z h old) split keeps in
    let g : List PlainNode = plain_of z in
    let r : Reads g k.now (event_of g x) (map (event_of g) rest) old new = reads g k.rules k.now x (map (event_of g) rest) old new k.proper k.lawful.0 k.flying on in
    record {
      rules = k.rules;
      proper = k.proper;
      now = step g k.now (event_of g x);
      flying = r.flying;
      lawful = k.lawful.1;
      whole = sym r.same ∙ k.whole;
    }

pub keeps_few : (z : Seen) (rest : List Event) (takes : List Taken) → KeepsSoFar z rest takes → AreFew takes
keeps_few z rest takes k = k.flying.few

pub keeps_all : (z : Seen) (history : List Event) (i : ℕ) (takes : List Taken) → length history ≤ i → KeepsSoFar z (drop i history) takes → takes ≡ takes_of (events_of z)
keeps_all z history i takes l keeps =
    let k : KeepsSoFar z [] takes = subst (λ (h : List Event). KeepsSoFar z h takes) (drop_all i history l) keeps in
    sym (append-nil (map (λ y. came_of y []) takes) ∙ all_came takes) ∙ k.whole
