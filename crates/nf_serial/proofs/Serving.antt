-- What a run on one lane asks of its lane and of the calls of its run.
use Rattle.std.proofs.Common.{◌≡◌, ◌≢◌, ℕ, refl, subst, arith, ◌∙◌, List, [], ◌∷◌, Bool, true, false, not}
use Rattle.std.specs.Prelude.{Option, Some, None, option_map, Err, IfSome, IsTrue, ◌&&◌, ◌||◌, bytes_eq}
use Rattle.std.specs.List.{list_any}
use Rattle.nf_value.specs.declared.file.FileRef.{FileRef}
use Rattle.nf_value.specs.Plain.{Plain}
use Rattle.nf_graph.specs.Rules.{Rules}
use Rattle.nf_graph.specs.Node.{node_at}
use Rattle.nf_job.specs.declared.fault.TaskFault.{TaskFault}
use Rattle.nf_job.specs.declared.parts.JobParts.{JobParts}
use Rattle.nf_job.specs.declared.report.Report.{Report}
use Rattle.nf_host.specs.Told.{Both}
use Rattle.nf_lane.specs.Store.{Store, Grows, IsLook, OnThere, lacks}
use Rattle.nf_lane.specs.World.{World}
use Rattle.nf_lane.specs.declared.lane.Look.{Look}
use Rattle.nf_lane.specs.declared.lane.Look.TheVariants.{There, Gone}
use Rattle.nf_machine.specs.declared.event.Cause.TheVariants as cause
use Rattle.nf_machine.specs.declared.stop.Stop.{Stop}
use Rattle.nf_machine.specs.declared.stop.Stop.TheVariants as s
use Rattle.nf_machine.specs.declared.stop.Outside.TheVariants.{Lane, Keeper}
use Rattle.nf_machine.specs.Event.{stop_of, fault_stop}
use Rattle.nf_graph.specs.Faults.{task_fails}
use Rattle.nf_machine.specs.Legal.{AbortIsLegal, InFlight, IsProcessKind}
use Rattle.nf_flight.specs.declared.ticket.Ticket.{Ticket}
use Rattle.nf_flight.specs.Ticket.{number_of, node_of, inputs_of, n_of, attempt_of}
use Rattle.nf_flow.specs.Seen.{Seen, plain_of, state_of}
use Rattle.nf_flow.specs.Questions.{IsFlying}
use Rattle.nf_flow.specs.Stopped.{IsNamedIfAny}
use Rattle.nf_core.specs.Calls.{IsTask}
use Rattle.nf_keeper.specs.Held.{Held}
use Rattle.nf_core.specs.Causes.{IsCaused, IsGone, IsLeft}
use Rattle.nf_core.specs.Opening.{Opening, IsLane}
use Rattle.nf_core.specs.Records.{Write, IsHeld}
use Rattle.nf_serial.specs.Serial.{LaneNow, Later, IsLacked, IsLookOf, IsJobless, IsLaneStop, MayLose}
use Rattle.nf_core.proofs.Entering.{both_then}
use Rattle.nf_core.proofs.Legals.{memory_legal, outside_legal}
use Rattle.nf_core.proofs.Seens.{in_flight}

-- ---- why a ticket is given up

task_legal : (F : Opening) (z : Seen) (t : Ticket) (node n : ℕ) (inputs : List Plain) (fault : TaskFault) (f : IsFlying z t) → IsTask z t → node ≡ node_of t → inputs ≡ inputs_of t → n ≡ n_of t
    → F.rules.job (node_of t) (inputs_of t) (n_of t) (attempt_of t) ≡ Err fault
    → InFlight (state_of z) (number_of t) (λ k. AbortIsLegal (plain_of z) F.rules (state_of z) k (Some (fault_stop (task_fails node inputs n fault))))
task_legal F z t node n inputs fault f task at_node at_inputs at_n refused =
    in_flight (state_of z) (number_of t) f.ticket (λ k. AbortIsLegal (plain_of z) F.rules (state_of z) k (Some (fault_stop (task_fails node inputs n fault)))) f.there (
      subst (λ i. IsProcessKind (node_at (plain_of z) i).kind) f.is.node task,
      at_node ∙ f.is.node,
      at_inputs ∙ f.is.inputs,
      at_n ∙ f.is.n,
      rw (at_node, at_inputs, at_n, ← f.is.attempt) refused,
    )

pub lose_legal : (F : Opening) (z : Seen) (t : Ticket) (stop : Stop) → IsFlying z t → MayLose F.rules z t stop
    → InFlight (state_of z) (number_of t) (λ k. AbortIsLegal (plain_of z) F.rules (state_of z) k (option_map stop_of (Some stop)))
lose_legal F z t s.Mem f l = memory_legal F z t f
lose_legal F z t (s.Outside Lane) f l = outside_legal F z t Lane f
lose_legal F z t (s.Outside Keeper) f l = absurd l
lose_legal F z t (s.Charge sum) f l = absurd l
lose_legal F z t (s.Op node fault) f l = absurd l
lose_legal F z t (s.Item node item fault) f l = absurd l
lose_legal F z t (s.Task node inputs n fault) f l = task_legal F z t node n inputs fault f l.0 l.1 l.2 l.3 l.4

pub lose_not_keeper : (R : Rules) (z : Seen) (t : Ticket) (stop : Stop) → MayLose R z t stop → Some stop ≢ Some (s.Outside Keeper)
lose_not_keeper R z t s.Mem l = λ h. cc
lose_not_keeper R z t (s.Outside Lane) l = λ h. cc
lose_not_keeper R z t (s.Outside Keeper) l = λ h. l
lose_not_keeper R z t (s.Charge sum) l = λ h. l
lose_not_keeper R z t (s.Op node fault) l = λ h. l
lose_not_keeper R z t (s.Item node item fault) l = λ h. l
lose_not_keeper R z t (s.Task node inputs n fault) l = λ h. cc

pub lose_named : (R : Rules) (z : Seen) (t : Ticket) (stop : Stop) → MayLose R z t stop → IsNamedIfAny (Some stop)
lose_named R z t s.Mem l = tt
lose_named R z t (s.Outside o) l = tt
lose_named R z t (s.Charge sum) l = tt
lose_named R z t (s.Op node fault) l = absurd l
lose_named R z t (s.Item node item fault) l = tt
lose_named R z t (s.Task node inputs n fault) l = tt

-- without a job no lane is to blame
pub jobless_innocent : (R : Rules) (z : Seen) (t : Ticket) (stop : Stop) → IsJobless R z t stop → Some stop ≢ Some (s.Outside Lane)
jobless_innocent R z t s.Mem l = λ h. cc
jobless_innocent R z t (s.Outside o) l = λ h. l
jobless_innocent R z t (s.Charge sum) l = λ h. l
jobless_innocent R z t (s.Op node fault) l = λ h. l
jobless_innocent R z t (s.Item node item fault) l = λ h. l
jobless_innocent R z t (s.Task node inputs n fault) l = λ h. cc

pub jobless_may : (R : Rules) (z : Seen) (t : Ticket) (stop : Stop) → IsJobless R z t stop → MayLose R z t stop
jobless_may R z t s.Mem l = tt
jobless_may R z t (s.Outside o) l = absurd l
jobless_may R z t (s.Charge sum) l = absurd l
jobless_may R z t (s.Op node fault) l = absurd l
jobless_may R z t (s.Item node item fault) l = absurd l
jobless_may R z t (s.Task node inputs n fault) l = l

pub lane_may : (R : Rules) (z : Seen) (t : Ticket) (a b : ℕ) (stop : Stop) → IsLaneStop a b stop → MayLose R z t stop
lane_may R z t a b s.Mem l = tt
lane_may R z t a b (s.Outside Lane) l = tt
lane_may R z t a b (s.Outside Keeper) l = absurd l
lane_may R z t a b (s.Charge sum) l = absurd l
lane_may R z t a b (s.Op node fault) l = absurd l
lane_may R z t a b (s.Item node item fault) l = absurd l
lane_may R z t a b (s.Task node inputs n fault) l = absurd l

-- ---- the lane

pub same_store : (o : Option Store) → Both o o Grows
same_store None = tt
same_store (Some t) = λ d h. h

pub later_still : (a : LaneNow) → Later a a
later_still a = record { faults = omega arith; world = refl; store = same_store a.store }

pub later_then : {a b c : LaneNow} → Later a b → Later b c → Later a c
later_then {a} {b} {c} p q = record {
  faults = (let x = p.faults in let y = q.faults in omega (arith, x, y));
  world = q.world ∙ p.world;
  store = both_then a.store b.store c.store p.store q.store (λ m n o p q d h. q d (p d h));
}

pub lane_on : (F : Opening) (a b : LaneNow) → Later a b → IsLane F a.world a.store → IsLane F b.world b.store
lane_on F a b later l = record {
  place = l.place;
  lane = l.lane;
  there = l.there;
  same = later.world ∙ l.same;
  grows = both_then l.lane.store a.store b.store l.grows later.store (λ m n o p q d h. q d (p d h));
}

-- ---- looks

or_weaker : (a b c d : Bool) → (IsTrue a → IsTrue c) → (IsTrue b → IsTrue d) → IsTrue (a || b) → IsTrue (c || d)
or_weaker true b true d f g h = refl
or_weaker true b false d f g h = let w : false ≡ true = f refl in absurd (cc)
or_weaker false b true d f g h = refl
or_weaker false b false d f g h = g h

any_weaker : {X : Type 0} (p q : X → Bool) → ((x : X) → IsTrue (p x) → IsTrue (q x)) → (xs : List X) → IsTrue (list_any p xs) → IsTrue (list_any q xs)
any_weaker p q w [] h = h
any_weaker p q w (x ∷ xs) h = or_weaker (p x) (list_any p xs) (q x) (list_any q xs) (w x) (any_weaker p q w xs) h

lacking_more : (named s t : Bool) → (IsTrue s → IsTrue t) → IsTrue (named && not t) → IsTrue (named && not s)
lacking_more false s t f h = h
lacking_more true s true f h = absurd (cc)
lacking_more true true false f h = f refl
lacking_more true false false f h = refl

-- a smaller store lacks what a larger one does
lacks_before : (s t : Store) (name : List ℕ) → Grows s t → (found : List (List FileRef)) → IsTrue (lacks t found name) → IsTrue (lacks s found name)
lacks_before s t name grows found h =
    any_weaker (list_any (λ f. bytes_eq f.name name && not (t f.digest.0))) (list_any (λ f. bytes_eq f.name name && not (s f.digest.0)))
    (any_weaker (λ f. bytes_eq f.name name && not (t f.digest.0)) (λ f. bytes_eq f.name name && not (s f.digest.0))
    (λ f. lacking_more (bytes_eq f.name name) (s f.digest.0) (t f.digest.0) (grows f.digest.0)))
    found h

lacked_in : (name : List ℕ) (found : List (List FileRef)) (before now : Option Store) → Both before now Grows → IfSome now (λ t. IsTrue (lacks t found name)) → IfSome before (λ t. IsTrue (lacks t found name))
lacked_in name found None now both h = tt
lacked_in name found (Some s) None both h = absurd both
lacked_in name found (Some s) (Some t) both h = lacks_before s t name both found h

gone_in : (S : Type 0) (now : Option Store) (found : List (List FileRef)) (name : List ℕ) → IfSome now (λ t. IsLook {S = S} t found (Gone name)) → IfSome now (λ t. IsTrue (lacks t found name))
gone_in S None found name h = tt
gone_in S (Some t) found name h = h

pub look_so : (F : Opening) {S : Type 0} (genuine : S → Type 0) (told : S → Report) (r : Report) (x : Look S) (world : Option World) (store : Option Store) → IsLane F world store
    → OnThere genuine x → OnThere (λ y. told y ≡ r) x → IfSome store (λ t. IsLook t r.found x) → IsLookOf F genuine told r x
look_so F genuine told r (There y) world store l real is looked = (real, is)
look_so F {S} genuine told r (Gone name) world store l real is looked = record {
  place = l.place;
  lane = l.lane;
  there = l.there;
  lacking = lacked_in name r.found l.lane.store store l.grows (gone_in S store r.found name looked);
}

pub gone_cause : (F : Opening) (ws : List Write) (job : JobParts) (r : Report) (name : List ℕ) → IsLeft F job r → IsLacked F r.found name → IsCaused F ws job (cause.Gone name)
gone_cause F ws job r name left gone = (left.resumed, by_held F.held left.held) where
  by_held : (o : Option Held) → IfSome o (λ m. IsHeld m job r) → IfSome o (λ m. IsGone F m job name)
  by_held None h = tt
  by_held (Some m) h = record { report = r; held = h; place = gone.place; lane = gone.lane; there = gone.there; lacking = gone.lacking }

-- what a look found, by its kind
pub there_so : (F : Opening) {S : Type 0} (genuine : S → Type 0) (told : S → Report) (r : Report) (x : Look S) (y : S) → x ≡ There y → IsLookOf F genuine told r x → genuine y × (told y ≡ r)
there_so F genuine told r x y at look = subst (IsLookOf F genuine told r) at look

pub lacked_so : (F : Opening) {S : Type 0} (genuine : S → Type 0) (told : S → Report) (r : Report) (x : Look S) (name : List ℕ) → x ≡ Gone name → IsLookOf F genuine told r x → IsLacked F r.found name
lacked_so F genuine told r x name at look = subst (IsLookOf F genuine told r) at look
