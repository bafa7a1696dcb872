-- The tasks of a process, in memory and in the walk.
use Rattle.std.proofs.Common.{◌≡◌, ◌<◌, ◌^◌, ◌++◌, ◌∷◌, ℕ, List, [], length, Result, Ok, Err, OnOk, IfOk, refl, sym, ap, ◌∙◌, subst}
use Rattle.std.specs.Global.{Vec}
use Rattle.nf_value.specs.Plain.{Plain}
use Rattle.nf_value.specs.declared.place.Place.{Place}
use Rattle.nf_ast.specs.Tree.{Tree}
use Rattle.nf_builtins.specs.Natives.{is_among}
use Rattle.std.specs.Prelude.{true, false, Option, Some, None}
use Rattle.nf_graph.specs.declared.port.Port.{Port}
use Rattle.nf_graph.specs.Meaning.{Bags}
use Rattle.nf_tasks.specs.declared.process.ProcessSpec.{ProcessSpec}
use Rattle.nf_tasks.specs.Memory.{Program, process_of}
use Rattle.nf_meaning.specs.declared.fault.LowerFault.{LowerFault}
use Rattle.nf_meaning.specs.declared.fault.LowerFault.TheVariants.{Mem}
use Rattle.nf_meaning.specs.CallPaths.{BodyCalls, GoesOn, is_plain_name}
use Rattle.nf_meaning.specs.Calls.{call_fault, process_at, task_call, tasks_mean}
use Rattle.nf_meaning.specs.Lowered.{Lowered, unless}
use Rattle.nf_meaning.specs.Nodes.{PortsStand}
use Rattle.nf_meaning.specs.Processes.{called_process}
use Rattle.nf_meaning.specs.Tasks.{CalledProcess, TaskCall}
use Rattle.nf_meaning.specs.Things as meaning
use Rattle.nf_meaning.specs.Things.{Channel}
use Rattle.nf_meaning.specs.Walk.{Around, State, ◌>>=◌, lifted, unless_fault}
use Rattle.nf_lowered.specs.Given.{Gives}
use Rattle.nf_lowered.proofs.Joining.{fault_by}
use Rattle.nf_scopes.specs.declared.things.Thing.{Thing}
use Rattle.nf_scopes.specs.Things.{thing_of}
use Rattle.nf_plan.specs.declared.calls.ProcessCall.{ProcessCall}
use Rattle.nf_plan.specs.Calls.{HasOneQueue}
use Rattle.nf_plan.specs.Plans.{HasRoom, ReadPlan}
use Rattle.nf_plan.specs.Runs.{bags_of}
use Rattle.nf_around.specs.Around.{IsAround}
use Rattle.nf_called.specs.Called.{IsCalled}
use Rattle.nf_follows.specs.Lowers.{Owed}
use Rattle.nf_follows.specs.Things.{ThingReads}
use Rattle.nf_lowering.specs.declared.state.Lowering.{Lowering}
use Rattle.nf_lowering.specs.Nodes.{CanCallProcess, FillsRoom, IsTasksOf, calls_process, labels_of, with_path}
use Rattle.nf_lowering.specs.State.{IsLowering, Walks, calls_in}
use Rattle.nf_takes.specs.Takes.{FaultIs}
use Rattle.nf_walked.specs.declared.walker.Walker.{Walker}
use Rattle.nf_walked.specs.Around.{Knows}
use Rattle.nf_walked.specs.Forms.{a_thing, ports}
use Rattle.nf_walked.specs.Steps.{Came, Due, Known, Later, from}
use Rattle.nf_walked.proofs.Goings.{later_same}
use Rattle.nf_walked.proofs.Stepping.{came}
use Rattle.nf_calling.specs.Goes.{GoesCalled, Going, HasBegun, WalkedAs}

-- what is due of the tasks of a process that is called by this name, on these ports
abbrev pub of_tasks : Place → List ℕ → Tree → List ℕ → Vec Port → Due (List Channel) Thing meaning.Thing
of_tasks p n t path ps = from ports ps a_thing (process_at p n t path)

module _ {N : Type 0} (titles_of : N → List (List ℕ)) (answer_of : N → ℕ → List Plain → Option Plain) (x : Walker N) (p : Place) (n : List ℕ) (t : Tree) (path : List ℕ) (ps : Vec Port)
    (old : Lowering) where
  abbrev K : Known
  K = Knows titles_of answer_of x

  abbrev G : Going
  G = GoesCalled n (length ps.items)

  abbrev d : Due (List Channel) Thing meaning.Thing
  d = of_tasks p n t path ps

  -- the process in memory is the one of the call, whatever is around the body
  abbrev pub IsSpec : Result ProcessSpec LowerFault → Type 0
  IsSpec r = (a : Around) → IsAround titles_of answer_of x.around.now a → Gives (IsCalled a.given.program) (called_process a path t) r

  -- and it is checked with these ports
  abbrev pub IsChecked : ProcessSpec → Result (Unit {0}) LowerFault → Type 0
  IsChecked spec r = (bags : Bags) (cs : List Channel) (c : CalledProcess) → PortsStand bags ps.items cs → labels_of spec.outputs.items ≡ c.labels → FaultIs (call_fault p c cs) r

  -- the walk, once the definition is known
  abbrev from_called : List Channel → Around → State → Lowered CalledProcess → Lowered (meaning.Thing × State)
  from_called cs a s v = (lifted v >>= λ c. unless_fault (call_fault p c cs) >>= λ y. tasks_mean n (task_call a path c cs)) a s

  -- ---- before anything is added

  pub lost_before : WalkedAs G K d old old (Err Mem)
  lost_before = record { later = later_same old.plan; goes = tt; fits = tt; follows = λ q y runs stands is. tt }

  pub spec_fails : (e : LowerFault) → IsSpec (Err e) → WalkedAs G K d old old (Err e)
  spec_fails e fault = record {
    later = later_same old.plan;
    goes = tt;
    fits = tt;
    follows = λ q cs runs stands is.
        fault_by (called_process q.around path t) (from_called cs q.around q.state (called_process q.around path t)) e (λ k. ap (from_called cs q.around q.state) k)
        (fault q.around stands.around.around);
  }

  refused : (cs : List Channel) (a : Around) (s : State) (c : CalledProcess) (e : LowerFault) (f : Option LowerFault) → unless {A = Unit {0}} f (Ok tt) ≡ Err e
      → (unless_fault f >>= λ y. tasks_mean n (task_call a path c cs)) a s ≡ Err e
  refused cs a s c e None k = absurd (let q : ◌≡◌ {A = Lowered (Unit {0})} (Ok tt) (Err e) = k in cc)
  refused cs a s c e (Some f) k = let q : ◌≡◌ {A = Lowered (Unit {0})} (Err f) (Err e) = k in let g : f ≡ e = cc in ap (λ h. Err h) g

  pub check_fails : (spec : ProcessSpec) (e : LowerFault) → IsSpec (Ok spec) → IsChecked spec (Err e) → WalkedAs G K d old old (Err e)
  check_fails spec e means checked = record {
    later = later_same old.plan;
    goes = tt;
    fits = tt;
    follows = λ q cs runs stands is.
        (let it = means q.around stands.around.around in
        let c = it.value in
        fault_by (unless {A = Unit {0}} (call_fault p c cs) (Ok tt)) (from_called cs q.around q.state (called_process q.around path t)) e
        (λ k. ap (from_called cs q.around q.state) it.is ∙ refused cs q.around q.state c e (call_fault p c cs) k)
        (checked (bags_of q.run old.plan) cs c is it.fits.labels));
  }

  -- ---- the node is added

  passed : (cs : List Channel) (a : Around) (s : State) (c : CalledProcess) (f : Option LowerFault) → FaultIs f (Ok tt)
      → (unless_fault f >>= λ y. tasks_mean n (task_call a path c cs)) a s ≡ tasks_mean n (task_call a path c cs) a s
  passed cs a s c None h = refl
  passed cs a s c (Some f) h = absurd (let q : ◌≡◌ {A = Lowered (Unit {0})} (Err f) (Ok h.value) = h.is in cc)

  module _ (call : ProcessCall) (new : Lowering) where
    abbrev o : Owed TaskCall Thing meaning.Thing
    o = calls_process n call

    abbrev step : Due TaskCall Thing meaning.Thing
    step = record { In = λ q z c. Unit {0}; walk = tasks_mean n; form = a_thing }

    pub tasks_walked : (r : Result Thing LowerFault) → Later old.plan new.plan → OnOk r (G old new) → IfOk r (λ v. ThingReads new.plan (thing_of v)) → Walks o old new r → IsSpec (Ok call.spec)
        → IsChecked call.spec (Ok tt) → call.ports ≡ ps.items → call.spec.name ≡ path → WalkedAs G K d old new r
    tasks_walked r later goes fits walks means checked same named = record {
      later = later;
      goes = goes;
      fits = fits;
      follows = λ q cs runs stands is.
          (let a = q.around in
          let it = means a stands.around.around in
          let c = it.value in
          let bags = bags_of q.run old.plan in
          let ports_are : PortsStand bags call.ports cs = subst (λ qs. PortsStand bags qs cs) (sym same) is in
          let called : IsTasksOf q.run old.plan call (task_call a path c cs) = record {
            call = record {
              process = ap (λ (m : Program). process_of m call.spec) stands.around.program ∙ it.fits.process;
              path = named;
              ports = ports_are;
              outcomes = stands.around.outcomes;
            };
            labels = it.fits.labels;
          } in
          let there = (walks q.braces).follows q.run a q.state (task_call a path c cs) runs stands.body called in
          let came_to = came K o step old new q (task_call a path c cs) r stands (λ v y h. h.1) (tasks_mean n (task_call a path c cs) a q.state) there in
          let goes_to = ap (from_called cs a q.state) it.is ∙ passed cs a q.state c (call_fault p c cs) (checked bags cs c is it.fits.labels) in
          subst (λ w. Gives (Came K a_thing q new) w r) (sym goes_to) came_to);
    }

-- ---- what goes on

abbrev pub PathEnters : Type 0
PathEnters = (s : BodyCalls) (t : BodyCalls) (u : BodyCalls) (n : List ℕ) → GoesOn s t → is_plain_name n ≡ true → is_among n s.called ≡ false → is_among n t.called ≡ true → u.path ≡ t.path
    → u.called ≡ t.called → u.paths ≡ t.paths ++ (s.path ++ n) ∷ [] → GoesOn s u

pub goes_called : {C : Type 0} (law : PathEnters) (n : List ℕ) (ports : ℕ) (old new : Lowering) (r : Result C LowerFault) → HasBegun n old → OnOk r (IsLowering new)
    → OnOk r (calls_in new ≡ with_path (old.path ++ n) (calls_in old)) → FillsRoom ports old.plan new.plan → new.within ≡ old.within → OnOk r (GoesCalled n ports old new)
goes_called law n ports old new (Ok v) begun keeps calls room within = record {
  keeps = keeps;
  calls = λ s on none.
      law s (calls_in old) (calls_in new) n on begun.plain none begun.begun (ap (λ (c : BodyCalls). c.path) calls) (ap (λ (c : BodyCalls). c.called) calls)
      (ap (λ (c : BodyCalls). c.paths) calls ∙ ap (λ (m : List ℕ). (calls_in old).paths ++ (m ++ n) ∷ []) on.path);
  room = room;
  within = ap (λ w. w.items) within;
}
goes_called law n ports old new (Err e) begun keeps calls room within = tt

-- the call may be added
pub can_call : (z : Lowering) (n : List ℕ) (call : ProcessCall) (ps : List Port) → call.ports ≡ ps → call.spec.name ≡ z.path ++ n → HasBegun n z → HasRoom z.plan (length ps) → ReadPlan z.plan ps → HasOneQueue ps
    → length call.spec.outputs.items < 2 ^ 32 → CanCallProcess z n call
can_call z n call ps same named begun room reads queue few = record {
  room = subst (λ (qs : List Port). HasRoom z.plan (length qs)) (sym same) room;
  reads = subst (λ (qs : List Port). ReadPlan z.plan qs) (sym same) reads;
  queue = subst (λ (qs : List Port). HasOneQueue qs) (sym same) queue;
  outputs = few;
  path = named;
  plain = begun.plain;
  begun = begun.begun;
  fresh = begun.fresh;
}

-- checked as a slice, and as the vector that it is of
pub checked_as : (p : Place) (ps qs : List Port) (os : List (Option (List ℕ))) (r : Result (Unit {0}) LowerFault) → ps ≡ qs
    → ((bags : Bags) (cs : List Channel) (c : CalledProcess) → PortsStand bags ps cs → os ≡ c.labels → FaultIs (call_fault p c cs) r)
    → (bags : Bags) (cs : List Channel) (c : CalledProcess) → PortsStand bags qs cs → os ≡ c.labels → FaultIs (call_fault p c cs) r
checked_as p ps qs os r same h bags cs c is labels = h bags cs c (subst (λ (xs : List Port). PortsStand bags xs cs) (sym same) is) labels
