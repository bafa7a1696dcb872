-- From the call that begins an attempt to the one that ends it.
use Rattle.std.proofs.Common.{◌≡◌, List, ℕ, refl, ap, sym, subst, ◌∙◌}
use Rattle.std.specs.Prelude.{Option, Some, None, IfSome}
use Rattle.nf_job.specs.declared.parts.JobParts.{JobParts}
use Rattle.nf_job.specs.declared.report.Report.{Report}
use Rattle.nf_job.specs.JobText.{job_text}
use Rattle.nf_graph.specs.Rules.{Outs, Rules}
use Rattle.nf_machine.specs.declared.event.Cause.{Cause}
use Rattle.nf_machine.specs.declared.event.Event.{Event}
use Rattle.nf_machine.specs.declared.event.Event.TheVariants as e
use Rattle.nf_machine.specs.History.{IsHistory}
use Rattle.nf_flight.specs.declared.ticket.Ticket.{Ticket}
use Rattle.nf_flight.specs.Ticket.{number_of, node_of}
use Rattle.nf_stored.specs.Attempts.{IsJobOf}
use Rattle.nf_flow.specs.Seen.{Seen, events_of, grown, plain_of}
use Rattle.nf_flow.specs.Questions.{IsFlying}
use Rattle.nf_lane.specs.Store.{Store}
use Rattle.nf_lane.specs.World.{World}
use Rattle.nf_lane.specs.World as lanes
use Rattle.nf_core.specs.declared.next.Next.{Next}
use Rattle.nf_core.specs.declared.next.Next.TheVariants.{Run, Look}
use Rattle.nf_core.specs.declared.ran.Ran.{Ran}
use Rattle.nf_core.specs.Calls.{EndsOrUp, IsEnteredBy, IsNext, IsTask, Starts}
use Rattle.nf_core.specs.Causes.{IsLeft}
use Rattle.nf_core.specs.Opening.{Opening, IsLane}
use Rattle.nf_core.specs.Ran.{IsRan, done_of, report_of}
use Rattle.nf_core.specs.Told.{attempt_by}
use Rattle.tests_core.specs.Tried.{tried_rules}
use Rattle.tests_core.specs.Opened.{IsTried}
use Rattle.tests_core.proofs.Trying.{gives, task_at, under}

-- an attempt in flight, and its job
pub record Has (F : Opening) (z : Seen) (t : Ticket) (job : JobParts) : Type 0 where
  pub flying : IsFlying z t
  pub task : IsTask z t
  pub of : IsJobOf F.rules (attempt_by t) job

has_so : (F : Opening) (z : Seen) (t : Ticket) (job : JobParts) → IsTried F → z.graph ≡ F.graph → node_of t ≡ 2 → IsJobOf tried_rules (attempt_by t) job → IsFlying z t → Has F z t job
has_so F z t job tried same node of flying = record {
  flying = flying;
  task = task_at F z t tried same node;
  of = under F (λ R. IsJobOf R (attempt_by t) job) tried of;
}

abbrev pub Stays : Type 0
Stays = (R : Rules) → (z : Seen) → (t : Ticket) → (cause : Cause) → IsHistory (plain_of z) R (events_of z) → IsFlying z t → IsFlying (grown z (e.Start (number_of t) cause)) t

-- the attempt started
pub runs : Stays → (F : Opening) (z f : Seen) (t u : Ticket) (job : JobParts) (n : Next) → IsTried F → z.graph ≡ F.graph → IsHistory (plain_of z) F.rules (events_of z) → IsFlying z t → node_of t ≡ 2
    → IsJobOf tried_rules (attempt_by t) job → IsNext F job z t n f → n ≡ Run u → Has F f u job
runs law F z f t u job n tried same lawful flying node of next is =
    let h = subst (λ m. IsNext F job z t m f) is next in
    subst (λ (v : Ticket). Has F f v job) (sym h.0)
    (has_so F f t job tried (ap (λ (y : Seen). y.graph) h.1.1 ∙ same) node of (subst (λ y. IsFlying y t) (sym h.1.1) (law F.rules z t h.1.0 lawful flying)))

-- its record is found
pub record Found (F : Opening) (z : Seen) (t : Ticket) (job : JobParts) (r : Report) : Type 0 where
  pub has : Has F z t job
  pub left : IsLeft F job r

pub looks : (F : Opening) (z f : Seen) (t u : Ticket) (job : JobParts) (r : Report) (n : Next) → IsTried F → z.graph ≡ F.graph → IsFlying z t → node_of t ≡ 2
    → IsJobOf tried_rules (attempt_by t) job → IsNext F job z t n f → n ≡ Look u r → Found F f u job r
looks F z f t u job r n tried same flying node of next is =
    let h = subst (λ m. IsNext F job z t m f) is next in
    record {
      has = subst (λ (v : Ticket). Has F f v job) (sym h.0) (subst (λ (y : Seen). Has F y t job) (sym h.2) (has_so F z t job tried same node of flying));
      left = h.1;
    }

pub starts_so : Stays → (F : Opening) (z f : Seen) (t u : Ticket) (cause : Cause) (o : Option Ticket) → IsHistory (plain_of z) F.rules (events_of z) → IsFlying z t → Starts z t cause o f → o ≡ Some u → IsFlying f u
starts_so law F z f t u cause o lawful flying next is =
    let h = subst (λ m. Starts z t cause m f) is next in
    subst (IsFlying f) (sym h.0) (subst (λ y. IsFlying y t) (sym h.1) (law F.rules z t cause lawful flying))

-- what a lane gave may be entered
pub entered : {D : Type 0} (F : Opening) (genuine : D → Type 0) (job_in : D → List ℕ) (told : D → Report) (t : Ticket) (job : JobParts) (d : D) (x : Ran D) (world : Option World) (store : Option Store)
    → IsTried F → IsLane F world store → IfSome world (λ w. told d ≡ lanes.report_of w (job_text job)) → genuine d → job_in d ≡ job_text job → IsRan tried_rules t job d (told d) x
    → IsEnteredBy F (record { genuine = genuine; job = job_in; told = told }) t job x
entered {D} F genuine job_in told t job d x world store tried lane steady real text ran = record {
  real = subst genuine (sym ran.done_is) real;
  text = ap job_in ran.done_is ∙ text;
  ran = under F (λ R. IsRan R t job (done_of x) (told (done_of x)) x) tried (subst (λ (y : D). IsRan tried_rules t job y (told y) x) (sym ran.done_is) ran);
  world = gives F world store (job_text job) (report_of x) lane (subst (λ (r : Report). IfSome world (λ w. r ≡ lanes.report_of w (job_text job))) (sym ran.report_is) steady);
}

-- a ticket that came back is in flight
pub back_flies : (z f : Seen) (t : Ticket) (x : Event) (outs : Outs) (back : Option Ticket) → EndsOrUp z t x outs back f → IfSome back (IsFlying f)
back_flies z f t x outs None h = tt
back_flies z f t x outs (Some u) h = h.flying
