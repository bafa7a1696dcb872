-- What the calls of the small graph's runs ask for.
use Rattle.std.proofs.Common.{◌≡◌, ◌≢◌, ℕ, zero, suc, List, [], ◌∷◌, Bool, refl, ap, sym, subst, ◌∙◌, arith}
use Rattle.std.specs.Prelude.{Option, Some, None, Result, Ok, Err, IfSome, codes, option_map, length, ◌<◌}
use Rattle.nf_value.specs.Plain.{Plain}
use Rattle.nf_value.specs.declared.value.Value.TheVariants.{Null}
use Rattle.nf_job.specs.declared.parts.JobParts.{JobParts}
use Rattle.nf_job.specs.declared.report.Report.{Report}
use Rattle.nf_job.specs.JobText.{job_text}
use Rattle.nf_graph.specs.declared.node.Node.{Node}
use Rattle.nf_graph.specs.Node.{node_at}
use Rattle.nf_graph.specs.Rules.{Rules, IsRules}
use Rattle.nf_graph.specs.WellMade.{plain_graph}
use Rattle.nf_machine.specs.declared.stop.Stop.TheVariants as s
use Rattle.nf_machine.specs.declared.stop.Outside.TheVariants.{Keeper}
use Rattle.nf_machine.specs.Event.{stop_of}
use Rattle.nf_machine.specs.Legal.{AbortIsLegal, InFlight, IsOperatorKind, IsProcessKind}
use Rattle.nf_flight.specs.declared.ticket.Ticket.{Ticket}
use Rattle.nf_flight.specs.Ticket.{number_of, node_of}
use Rattle.nf_stored.specs.Attempts.{Attempt, IsNamed, NamesJobs, TellsApart, job_of}
use Rattle.nf_flow.specs.Seen.{Seen, begun, plain_of, state_of}
use Rattle.nf_flow.specs.Questions.{IsFlying}
use Rattle.nf_host.specs.Told.{Both}
use Rattle.nf_lane.specs.Store.{Store, Grows}
use Rattle.nf_lane.specs.World.{World, report_of}
use Rattle.nf_keeper.specs.Held.{Held}
use Rattle.nf_core.specs.Calls.{IsAnswered, IsTask}
use Rattle.nf_core.specs.Opening.{Opening, GivesReport, IsLane}
use Rattle.tests_core.specs.Tried.{tried_job, tried_nodes, tried_parts, tried_rules, tried_are_rules}
use Rattle.tests_core.specs.Opened.{IsTried, Opens, opening_of}

-- ---- tickets

pub task_at : (F : Opening) (z : Seen) (t : Ticket) → IsTried F → z.graph ≡ F.graph → node_of t ≡ 2 → IsTask z t
task_at F z t tried same node =
    subst (λ (ns : List Node). IsProcessKind (node_at (plain_graph ns) (node_of t)).kind) (sym (same ∙ tried.graph))
    (subst (λ (i : ℕ). IsProcessKind (node_at (plain_graph tried_nodes) i).kind) (sym node) tt)

pub answered_at : (F : Opening) (z : Seen) (t : Ticket) → IsTried F → z.graph ≡ F.graph → IsFlying z t → node_of t ≡ 1 → IsAnswered F.rules z t (Ok Null)
answered_at F z t tried same f node = record {
  ticket = f.ticket;
  there = f.there;
  kind =
      subst (λ (ns : List Node). IsOperatorKind (node_at (plain_graph ns) f.ticket.node).kind) (sym (same ∙ tried.graph))
      (subst (λ (i : ℕ). IsOperatorKind (node_at (plain_graph tried_nodes) i).kind) (sym node ∙ f.is.node) tt);
  by_rule = ap (λ (R : Rules). R.answer f.ticket.node f.ticket.take.item) (sym tried.rules);
}

-- what holds under the rules of the small graph
pub under : (F : Opening) (P : Rules → Type 0) → IsTried F → P tried_rules → P F.rules
under F P tried p = subst P (sym tried.rules) p

pub may_lose : (R : Rules) (z : Seen) (t : Ticket) → IsFlying z t → InFlight (state_of z) (number_of t) (λ k. AbortIsLegal (plain_of z) R (state_of z) k (option_map stop_of (Some s.Mem)))
may_lose R z t f = rw f.there tt

pub not_keeper : Some s.Mem ≢ Some (s.Outside Keeper)
not_keeper = λ h. cc

-- ---- lanes

pub gives : (F : Opening) (world : Option World) (store : Option Store) (text : List ℕ) (r : Report) → IsLane F world store → IfSome world (λ w. r ≡ report_of w text) → GivesReport F text r
gives F world store text r lane told = record {
  place = lane.place;
  lane = lane.lane;
  there = lane.there;
  told = subst (λ (o : Option World). IfSome o (λ w. r ≡ report_of w text)) lane.same told;
}

grows : (store : Option Store) → Both store store Grows
grows None = tt
grows (Some s) = λ d h. h

grows_on : (a b c : Option Store) → Both a b Grows → Both b c Grows → Both a c Grows
grows_on None None None p q = tt
grows_on None None (Some c) p q = absurd q
grows_on None (Some b) c p q = absurd p
grows_on (Some a) None c p q = absurd p
grows_on (Some a) (Some b) None p q = absurd q
grows_on (Some a) (Some b) (Some c) p q = λ d h. q d (p d h)

pub lane_on : (F : Opening) (w v : Option World) (s t : Option Store) → IsLane F w s → v ≡ w → Both s t Grows → IsLane F v t
lane_on F w v s t lane same more = record { place = lane.place; lane = lane.lane; there = lane.there; same = same ∙ lane.same; grows = grows_on lane.lane.store s t lane.grows more }

-- ---- openings

pub lane_of : (resumed : Bool) (held : Option Held) (world : Option World) (store : Option Store) → IsLane (opening_of resumed held world store) world store
lane_of resumed held world store = record { place = 0; lane = record { world = world; store = store }; there = refl; same = refl; grows = grows store }

pub opened : (resumed : Bool) (held : Option Held) (world : Option World) (store : Option Store) (flow : Seen) → flow ≡ begun tried_nodes → Opens (opening_of resumed held world store) flow resumed held 0
opened resumed held world store flow is = record {
  tried = record { graph = refl; rules = refl };
  history = ap (λ (z : Seen). z.history) is;
  graph = ap (λ (z : Seen). z.graph) is;
  resumed_is = refl;
  held_is = refl;
  faults_are = refl;
}

pub are_rules : (F : Opening) → IsTried F → IsRules F.rules
are_rules F tried = under F IsRules tried tried_are_rules

at_two : (node : ℕ) (inputs : List Plain) (n attempt : ℕ) (p : JobParts) → tried_job node inputs n attempt ≡ Ok p → (node ≡ 2) × (p ≡ tried_parts inputs n attempt)
at_two zero inputs n attempt p h = absurd (cc)
at_two (suc zero) inputs n attempt p h = absurd (cc)
at_two (suc (suc zero)) inputs n attempt p h = (refl, cc)
at_two (suc (suc (suc node))) inputs n attempt p h = absurd (cc)

named : (x : Attempt) (p : JobParts) → job_of tried_rules x ≡ Ok p → IsNamed (λ node. codes "P") x p
named x p h = let e = (at_two x.node x.inputs x.n x.attempt p h).1 in rw e (record { process = refl; inputs = refl; n = refl; attempt = refl })

names : NamesJobs tried_rules (λ node. codes "P")
names = record {
  each = named;
  paths = λ x y p q h k same. (at_two x.node x.inputs x.n x.attempt p h).0 ∙ sym (at_two y.node y.inputs y.n y.attempt q k).0;
}

pub apart : (F : Opening) → IsTried F → ((R : Rules) → (path : ℕ → List ℕ) → NamesJobs R path → TellsApart R) → TellsApart F.rules
apart F tried law = under F TellsApart tried (law tried_rules (λ node. codes "P") names)
