-- The call of a process is added, in memory and in the walk.
use Rattle.std.proofs.Common.{◌≡◌, ◌≤◌, ◌+◌, ℕ, Bool, true, false, ◌&&◌, ◌||◌, List, [], ◌∷◌, ◌++◌, Option, Result, Ok, Err, length, refl, sym, ap, ◌∙◌, subst, bytes_eq, arith}
use Rattle.std.specs.Prelude.{IfErr, IfOk, OnOk}
use Rattle.std.proofs.lemmas.List.{append_assoc}
use Rattle.nf_builtins.specs.Natives.{is_among}
use Rattle.nf_graph.specs.declared.port.Port.{Port}
use Rattle.nf_plan.specs.NodeInfo.{NodeInfo}
use Rattle.nf_meaning.specs.declared.fault.LowerFault.{LowerFault}
use Rattle.nf_meaning.specs.declared.fault.LowerFault.TheVariants as fault
use Rattle.nf_meaning.specs.CallPaths.{is_plain_name, BodyCalls, HasNoPath, PathsAreCalled}
use Rattle.nf_meaning.specs.Meaning.{and_meant}
use Rattle.nf_meaning.specs.Stands.{PortThing, results, StandsFor, ThingStands}
use Rattle.nf_meaning.specs.Tasks as tasks
use Rattle.nf_meaning.specs.Tasks.{TaskCall, task_meaning, outputs_of}
use Rattle.nf_meaning.specs.Things.{outputs}
use Rattle.nf_meaning.specs.Walk.{State, calling}
use Rattle.nf_scopes.specs.declared.things.Thing.{Thing}
use Rattle.nf_scopes.specs.Things.{thing_of}
use Rattle.nf_plan.specs.declared.builder.PlanBuilder.{PlanBuilder}
use Rattle.nf_plan.specs.declared.calls.ProcessCall.{ProcessCall}
use Rattle.nf_plan.specs.Calls.{CanAddProcess, PortsRead, are_values, next_port, process_info, process_node}
use Rattle.nf_plan.specs.Plans.{Adds, IsPlan, has_call_of, is_process}
use Rattle.nf_plan.specs.Runs.{Run, RunsNodes, ProcessStands, bags_of}
use Rattle.nf_follows.specs.Extends.{Extends}
use Rattle.nf_follows.specs.Lowers.{Lowers}
use Rattle.nf_follows.specs.Things.{ThingReads}
use Rattle.nf_lowering.specs.declared.state.Lowering.{Lowering}
use Rattle.nf_lowering.specs.State.{IsLowering, calls_in, lowering, path_if, process_paths}
use Rattle.nf_lowering.specs.Nodes.{CanCallProcess, KeepsCall, IsTasksOf, calls_process, labels_of, outputs_from, with_path}
use Rattle.nf_lowering.proofs.Keeping.{kept_keeps, kept_reads, kept_stands, kept_thing}
use Rattle.nf_lowering.proofs.Lasting.{ReadsOn, StandsOn}
use Rattle.nf_lowering.proofs.Outputs.{outputs_read, tasks_stand}
use Rattle.nf_lowering.proofs.Planned.{lost, stands_plan}

-- ---- its path

-- a process's node more adds its path
one_path : (xs : List NodeInfo) (x : NodeInfo) → is_process x.body ≡ true → process_paths (xs ++ x ∷ []) ≡ process_paths xs ++ x.name ∷ []
one_path [] x h = ap (λ b. path_if b x.name ++ []) h
one_path (y ∷ xs) x h =
    ap (λ ps. path_if (is_process y.body) y.name ++ ps) (one_path xs x h) ∙ sym (append_assoc (path_if (is_process y.body) y.name) (process_paths xs) (x.name ∷ []))

pub process_path : (old : Lowering) (p : ProcessCall) (n : List ℕ) (b : PlanBuilder) → Adds old.plan b (process_node p) (process_info p) → p.spec.name ≡ old.path ++ n
    → process_paths b.infos.items ≡ process_paths old.plan.infos.items ++ (old.path ++ n) ∷ []
process_path old p n b adds path =
    ap (λ (xs : List NodeInfo). process_paths xs) adds.infos ∙ one_path old.plan.infos.items (process_info p) refl
    ∙ ap (λ m. process_paths old.plan.infos.items ++ m ∷ []) path

-- a path is that of a call where it is among the paths
one_call : (b : Bool) (m p : List ℕ) (r : Bool) (ps : List (List ℕ)) → r ≡ is_among p ps → ((b && bytes_eq m p) || r) ≡ is_among p (path_if b m ++ ps)
one_call true m p r ps h = ap (λ q. bytes_eq m p || q) h
one_call false m p r ps h = h

calls_are : (p : List ℕ) (xs : List NodeInfo) → has_call_of p xs ≡ is_among p (process_paths xs)
calls_are p [] = refl
calls_are p (x ∷ xs) = one_call (is_process x.body) x.name p (has_call_of p xs) (process_paths xs) (calls_are p xs)

-- the law of a path that is new, and that of one that is added
abbrev pub PathNew : Type 0
PathNew = (s : BodyCalls) (n : List ℕ) → HasNoPath s n → is_among (s.path ++ n) s.paths ≡ false

abbrev pub PathAdded : Type 0
PathAdded = (s : BodyCalls) (t : BodyCalls) (n : List ℕ) → PathsAreCalled s → is_plain_name n ≡ true → is_among n s.called ≡ true → t.path ≡ s.path → t.called ≡ s.called
    → t.paths ≡ s.paths ++ (s.path ++ n) ∷ [] → PathsAreCalled t

pub can_add_process : PathNew → (z : Lowering) (n : List ℕ) (p : ProcessCall) → CanCallProcess z n p → CanAddProcess z.plan p
can_add_process law z n p h = record {
  room = h.room;
  reads = h.reads;
  queue = h.queue;
  path = ap (λ m. has_call_of m z.plan.infos.items) h.path ∙ calls_are (z.path ++ n) z.plan.infos.items ∙ law (calls_in z) n h.fresh;
  outputs = h.outputs;
}

-- ---- the step: the plan is b now, and the call's outputs stand in the table of calls

module _ (old new : Lowering) (p : ProcessCall) (n : List ℕ) (b : PlanBuilder) (port : Port) (ls : List (Option (List ℕ))) where
  abbrev mid : Lowering
  mid = record old { plan = b }

  abbrev here : Port
  here = next_port old.plan (are_values p.ports) 0

  abbrev given : PortThing
  given = results (outputs_from port 0 ls)

  module _ (others : new ≡ record mid { calls = new.calls }) (at : port ≡ here) (names : ls ≡ labels_of p.spec.outputs.items) (few : length ls ≡ length p.spec.outputs.items)
      (reads : PortsRead old.plan b (are_values p.ports) (length p.spec.outputs.items)) where
    results_read : ThingReads b given
    results_read =
        subst (λ (q : Port). ThingReads b (results (outputs_from q 0 ls))) (sym at)
        (outputs_read old.plan b (are_values p.ports) (length ls) (subst (λ k. PortsRead old.plan b (are_values p.ports) k) (sym few) reads) 0 ls (lemma (length ls)))
      where
        lemma : (k : ℕ) → 0 + k ≤ k
        lemma k = omega arith

    -- what is known of the new state in memory
    module _ (law : ReadsOn) (path : PathAdded) (k : IsLowering old) (extends : Extends old.plan b) (plan : IsPlan b) (paths : process_paths b.infos.items ≡ process_paths old.plan.infos.items ++ (old.path ++ n) ∷ [])
        (plain : is_plain_name n ≡ true) (begun : is_among n (calls_in old).called ≡ true) where
      mid_keeps : IsLowering mid
      mid_keeps = record {
        plan = plan;
        names = λ m t h. law old.plan b extends (thing_of t) (k.names m t h);
        calls = λ m t h. law old.plan b extends (thing_of t) (k.calls m t h);
        free = path (calls_in old) (calls_in mid) n k.free plain begun refl refl paths;
      }

      pub process_keeps : KeepsCall n given mid new → IsLowering new
      process_keeps kept = kept_keeps mid new n given others mid_keeps results_read kept

    -- what is given stands for the call's outputs
    given_stands : (x : Run) (c : TaskCall) → ((out : ℕ) → StandsFor (bags_of x b) (next_port old.plan (are_values p.ports) out) (tasks.given_at c out))
        → IsTasksOf x old.plan p c → ThingStands (bags_of x b) given (outputs (outputs_of c))
    given_stands x c each y =
        subst (λ (q : Port). ThingStands (bags_of x b) (results (outputs_from q 0 ls)) (outputs (outputs_of c))) (sym at)
        (subst (λ ms. ThingStands (bags_of x b) (results (outputs_from here 0 ls)) (outputs (tasks.outputs_from c 0 ms))) (names ∙ y.labels)
        (tasks_stand (bags_of x b) old.plan (are_values p.ports) c each 0 ls))

    -- the state of the walk after what the call means, and after the whole call
    abbrev after_meaning : State → TaskCall → State
    after_meaning s c = record s { meant = and_meant s.meant (task_meaning c) }

    abbrev gone : State → TaskCall → State
    gone s c = record s { scope = calling n (outputs_of c) s.scope; meant = and_meant s.meant (task_meaning c) }

    pub process_walks : StandsOn → IsLowering old → Extends old.plan b → ProcessStands old.plan p b → KeepsCall n given mid new → (t : Thing) → thing_of t ≡ given → (braces : List (List (List ℕ)))
        → Lowers (lowering braces) (calls_process n p) old new (Ok t)
    process_walks law k extends added kept t is braces = record {
      extends = subst (λ (z : Lowering). Extends old.plan z.plan) (sym others) extends;
      follows = λ x a s c runs stands y.
          (let there : RunsNodes x b.infos.items = subst (λ (z : Lowering). RunsNodes x z.plan.infos.items) others runs in
          let both = added x c s there y.call stands.plan in
          let gave : ThingStands (bags_of x b) given (outputs (outputs_of c)) = given_stands x c both.1 y in record {
            value = (outputs (outputs_of c), gone s c);
            is = refl;
            fits = record {
              stands = kept_stands mid new n given others braces x (after_meaning s c) (outputs_of c) gave kept
                  (stands_plan law braces x old b s s.sizes s.wants (and_meant s.meant (task_meaning c)) k extends both.0 stands);
              out = (kept_reads mid new n given others results_read t is, kept_thing mid new n given others x (outputs_of c) gave t is);
            };
          });
    }

    -- whether there was memory to keep what is given or not
    pub reads_by : (r : Result Thing LowerFault) → IfOk r (λ t. thing_of t ≡ given) → IfOk r (λ t. ThingReads new.plan (thing_of t))
    reads_by (Ok t) is = kept_reads mid new n given others results_read t is
    reads_by (Err e) is = tt

    pub process_given : StandsOn → IsLowering old → Extends old.plan b → ProcessStands old.plan p b → (r : Result Thing LowerFault) → OnOk r (KeepsCall n given mid new) → IfOk r (λ t. thing_of t ≡ given)
        → IfErr r (λ e. e ≡ fault.Mem) → (braces : List (List (List ℕ))) → Lowers (lowering braces) (calls_process n p) old new r
    process_given law k extends added (Ok t) kept is none braces = process_walks law k extends added kept t is braces
    process_given law k extends added (Err e) kept is none braces =
        lost (calls_process n p) old new braces (Err e) e refl none (subst (λ (z : Lowering). Extends old.plan z.plan) (sym others) extends)

pub on_ok : {A E P Q : Type 0} (r : Result A E) → (P → Q) → OnOk r P → OnOk r Q
on_ok (Ok x) f h = f h
on_ok (Err e) f h = tt

pub process_calls : (old new : Lowering) (b : PlanBuilder) (n : List ℕ) → new ≡ record old { plan = b; calls = new.calls }
    → process_paths b.infos.items ≡ process_paths old.plan.infos.items ++ (old.path ++ n) ∷ [] → calls_in new ≡ with_path (old.path ++ n) (calls_in old)
process_calls old new b n others paths =
    ap calls_in others ∙ ap (λ ps. record (calls_in old) { paths = ps }) paths
