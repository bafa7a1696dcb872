-- Calls of processes and workflows, step by step.
use Rattle.std.proofs.Common.{◌≡◌, ◌++◌, ℕ, List, [], ◌∷◌, length, Result, Ok, Err, Option, Some, None, refl, sym, ap, ◌∙◌, subst}
use Rattle.std.specs.Global.{Vec}
use Rattle.nf_value.specs.declared.place.Place.{Place}
use Rattle.nf_ast.specs.Tree.{Tree}
use Rattle.nf_ast.specs.declared.expr.Arg.{Arg as Stored}
use Rattle.std.specs.Borrow.{Bor}
use Rattle.nf_graph.specs.declared.port.Port.{Port}
use Rattle.nf_graph.specs.Meaning.{Bags}
use Rattle.nf_meaning.specs.declared.fault.LowerFault.{LowerFault}
use Rattle.nf_meaning.specs.Arguments.{Arg, channel_args}
use Rattle.nf_meaning.specs.Calls.{called_here, entered, process_at, process_call, workflow_call}
use Rattle.nf_meaning.specs.Lowered.{Lowered, unless}
use Rattle.nf_meaning.specs.Sizes.{counted}
use Rattle.nf_meaning.specs.Things.{Channel, Output, Thing}
use Rattle.nf_meaning.specs.Walk.{Around, Scope, State, Walk, ◌>>=◌, begins_call, then_by, unless_fault}
use Rattle.nf_lowered.proofs.Joining.{fault_by}
use Rattle.nf_scopes.specs.declared.things.CallOutput.{CallOutput}
use Rattle.nf_scopes.specs.declared.things.Thing as memory
use Rattle.nf_scopes.specs.Things.{thing_of}
use Rattle.nf_plan.specs.declared.builder.PlanBuilder.{PlanBuilder}
use Rattle.nf_plan.specs.Runs.{Run, bags_of}
use Rattle.nf_follows.specs.Things.{ThingReads}
use Rattle.nf_arguments.specs.declared.args.Args.{Args}
use Rattle.nf_arguments.specs.declared.args.Before.{Before}
use Rattle.nf_arguments.specs.Args.{AreArgs, AreBefore}
use Rattle.nf_lowering.specs.declared.state.Lowering.{Lowering}
use Rattle.nf_lowering.specs.State.{IsLowering}
use Rattle.nf_takes.specs.Takes.{FaultIs}
use Rattle.nf_walked.specs.Args.{ArgsRead, BeforeReads}
use Rattle.nf_walked.specs.Forms.{a_thing, nothing, outputs, ports}
use Rattle.nf_walked.specs.Parts.{of_args}
use Rattle.nf_walked.specs.Steps.{Due, Goes, Known, Later, Point, StandsAt, Walked, due, from}
use Rattle.nf_walked.proofs.Goings.{goes_same, later_same}
use Rattle.nf_walked.proofs.Leads.{Ins, Leads, ends, fails, goes_further}
use Rattle.nf_calling.specs.Calls.{WithArgs, begins_process, called_fault, process_fault}
use Rattle.nf_calling.specs.Goes.{GoesCalled, GoesInto, WalkedAs}
use Rattle.nf_calling.proofs.Along.{ends_as, fault_walked, goes_further_as}

-- ---- arguments that are kept for later

-- what stands before a pipe stands still in a later plan
moved_before : (x : Run) (old new : PlanBuilder) (o : Option Before) (ys : List Arg) → Later old new → BeforeReads old o → AreBefore (bags_of x old) o ys → AreBefore (bags_of x new) o ys
moved_before x old new None ys later reads h = h
moved_before x old new (Some b) ys later reads h = (
  h.0,
  h.1,
  record {
    label = h.2.label;
    place = h.2.place;
    value = h.2.value;
    thing = h.2.thing;
    gives_it = h.2.gives_it;
    stands = later.stands x (thing_of b.thing) h.2.thing reads h.2.stands;
  },
)

pub moved_on : (x : Run) (old new : PlanBuilder) (args : Args) (ys : List Arg) → Later old new → BeforeReads old args.before → AreArgs (bags_of x old) args ys → AreArgs (bags_of x new) args ys
moved_on x old new args ys later reads h = record { before = h.before; flows = moved_before x old new args.before h.before later reads h.flows; all = h.all }

before_reads : (old new : PlanBuilder) (o : Option Before) → Later old new → BeforeReads old o → BeforeReads new o
before_reads old new None later h = tt
before_reads old new (Some b) later h = later.reads (thing_of b.thing) h

pub args_read : (old new : PlanBuilder) (args : Args) → Later old new → ArgsRead old args → ArgsRead new args
args_read old new args later h = record { reads = before_reads old new args.before later h.reads; whole = h.whole }

-- with what stands before a pipe as the first
pub args_after : (b : PlanBuilder) (x y : Args) (before : Before) → y.before ≡ Some before → y.options ≡ x.options → x.options.now ≡ [] → ThingReads b (thing_of before.thing) → ArgsRead b y
args_after b x y before is options whole reads = record {
  reads = (let P : Option Before → Type 0 = λ o. BeforeReads b o in subst P (sym is) reads);
  whole = ap (λ (z : Bor (List Stored)). z.now) options ∙ whole;
}

-- ---- checks

pub none_of : (f : Option LowerFault) (u : Unit {0}) → FaultIs f (Ok u) → f ≡ None
none_of None u h = refl
none_of (Some f) u h = absurd (let q : ◌≡◌ {A = Lowered (Unit {0})} (Err f) (Ok h.value) = h.is in cc)

-- a fault of a check, where the walk goes by it
stops : (f : Option LowerFault) (w : Walk Thing) (a : Around) (s : State) (e : LowerFault) → unless {A = Unit {0}} f (Ok tt) ≡ Err e → (unless_fault f >>= λ y. w) a s ≡ Err e
stops None w a s e k = absurd (let q : ◌≡◌ {A = Lowered (Unit {0})} (Ok tt) (Err e) = k in cc)
stops (Some f) w a s e k = let q : ◌≡◌ {A = Lowered (Unit {0})} (Err f) (Err e) = k in let g : f ≡ e = cc in ap (λ h. Err h) g

passes : (f : Option LowerFault) (w : Walk Thing) (a : Around) (s : State) → f ≡ None → (unless_fault f >>= λ y. w) a s ≡ w a s
passes f w a s none = ap (λ g. (unless_fault g >>= λ y. w) a s) none

-- a call of the walk w with these arguments, of which f is wrong and `after` is left
module _ (K : Known) (x : Args) (w : List Arg → Walk Thing) (fault : List Arg → Scope → Option LowerFault) (after : Scope → List Arg → Walk Thing) (z : Lowering)
    (is : (ys : List Arg) (a : Around) (s : State) → w ys a s ≡ (unless_fault (fault ys s.scope) >>= λ y. after s.scope ys) a s) where
  abbrev Args_in : Ins (List Arg)
  Args_in p y ys = AreArgs (bags_of p.run y.plan) x ys

  pub check_stops : (e : LowerFault) → WithArgs z x (λ ys s. FaultIs (fault ys s) (Err e)) → Walked K (of_args x a_thing w) z z (Err e)
  check_stops e h = record {
    later = later_same z.plan;
    goes = tt;
    fits = tt;
    follows = λ p ys runs stands are.
        fault_by (unless {A = Unit {0}} (fault ys p.state.scope) (Ok tt)) (w ys p.around p.state) e
        (λ k. is ys p.around p.state ∙ stops (fault ys p.state.scope) (after p.state.scope ys) p.around p.state e k)
        (h p.braces p.run p.state ys stands.body are);
  }

  pub check_passes : (u : Unit {0}) (rest : List Arg → Walk Thing) → IsLowering z → WithArgs z x (λ ys s. FaultIs (fault ys s) (Ok u))
      → ((p : Point) (ys : List Arg) → StandsAt K p z → after p.state.scope ys p.around p.state ≡ rest ys p.around p.state) → Leads K Args_in w Args_in rest z z
  check_passes u rest keeps h same = record {
    later = later_same z.plan;
    goes = goes_same z keeps;
    left = λ p ys runs stands are. record {
      state = p.state;
      stands = stands;
      item = ys;
      is = are;
      same =
          is ys p.around p.state
          ∙ passes (fault ys p.state.scope) (after p.state.scope ys) p.around p.state (none_of (fault ys p.state.scope) u (h p.braces p.run p.state ys stands.body are))
          ∙ same p ys stands;
    };
  }

-- ---- a process

module _ (p : Place) (n : List ℕ) (t : Tree) where
  -- what is left of a call in the body of this path: its arguments, and then its definition
  abbrev args_left : List ℕ → List Arg → Walk Thing
  args_left path ys = channel_args ys >>= process_at p n t (path ++ n)

  abbrev pub process_left : List ℕ → List Arg → Walk Thing
  process_left path ys = begins_process p n (length ys) >>= λ y. args_left path ys

  pub process_is : (ys : List Arg) (a : Around) (s : State) → process_call p n t ys a s ≡ (unless_fault (process_fault p n t ys s.scope) >>= λ y. process_left s.scope.path ys) a s
  process_is ys a s = by (process_fault p n t ys s.scope)
    where
      by : (f : Option LowerFault)
          → (unless_fault f >>= λ _. begins_call n ((s.scope.path ++ n) ∷ []) >>= λ _. counted p (length ys) >>= λ _. args_left s.scope.path ys) a s
          ≡ (unless_fault f >>= λ y. process_left s.scope.path ys) a s
      by None = refl
      by (Some f) = refl

  module _ (K : Known) (x : Args) (path : List ℕ) (first : Lowering) (reads : ArgsRead first.plan x) where
    abbrev In : Ins (List Arg)
    In q y ys = AreArgs (bags_of q.run y.plan) x ys

    -- its name is kept, and it is counted
    module _ (k : ℕ) (are : (bags : Bags) (ys : List Arg) → AreArgs bags x ys → k ≡ length ys) (so_far : Leads K In (process_call p n t) In (process_left path) first first) where
      pub begin_fails : (mid : Lowering) (e : LowerFault) → Walked K (due nothing (begins_process p n k)) first mid (Err e) → Walked K (of_args x a_thing (process_call p n t)) first mid (Err e)
      begin_fails mid e step =
          fails K In (process_call p n t) In (process_left path) first first (due nothing (begins_process p n k)) a_thing mid e so_far step
          (λ q ys here is.
          record {
            first = tt;
            stands = tt;
            rest = λ y. args_left path ys;
            same = ap (λ m. (begins_process p n m >>= λ y. args_left path ys) q.around q.state) (sym (are (bags_of q.run first.plan) ys is));
          })

      pub begun : (mid : Lowering) (u : Unit {0}) → Walked K (due nothing (begins_process p n k)) first mid (Ok u) → Leads K In (process_call p n t) In (args_left path) first mid
      begun mid u step =
          goes_further K In (process_call p n t) In (process_left path) first first (due nothing (begins_process p n k)) In (args_left path) mid u so_far step
          (λ q ys here is.
          record {
            first = tt;
            stands = tt;
            goes = λ y s there out came. (
              ys,
              moved_on q.run first.plan mid.plan x ys step.later reads.reads is,
              ap (λ m. (begins_process p n m >>= λ z. args_left path ys) q.around q.state) (sym (are (bags_of q.run first.plan) ys is)) ∙ ap (then_by q.around (λ z. args_left path ys)) came,
            );
          })

    -- its arguments
    module _ (mid : Lowering) (so_far : Leads K In (process_call p n t) In (args_left path) first mid) where
      pub args_fail_here : (two : Lowering) (e : LowerFault) → Walked K (of_args x ports channel_args) mid two (Err e) → Walked K (of_args x a_thing (process_call p n t)) first two (Err e)
      args_fail_here two e step =
          fails K In (process_call p n t) In (args_left path) first mid (of_args x ports channel_args) a_thing two e so_far step
          (λ q ys here is. record { first = ys; stands = is; rest = process_at p n t (path ++ n); same = refl })

      -- and its definition
      pub called_at_last : (two new : Lowering) (ps : Vec Port) (at_path : List ℕ) (r : Result memory.Thing LowerFault) → at_path ≡ path
          → Walked K (of_args x ports channel_args) mid two (Ok ps) → (GoesCalled n (length ps.items) two new → Goes first new)
          → WalkedAs (GoesCalled n (length ps.items)) K (from ports ps a_thing (process_at p n t (at_path ++ n))) two new r → Walked K (of_args x a_thing (process_call p n t)) first new r
      called_at_last two new ps at_path r same step closes last =
          let U = λ (q : Point) (y : Lowering) (cs : List Channel). ports.Stands q.run y.plan ps cs in
          ends_as (GoesCalled n (length ps.items)) K In (process_call p n t) U (process_at p n t (path ++ n)) first two (from ports ps a_thing (process_at p n t (at_path ++ n))) new r
          (goes_further K In (process_call p n t) In (args_left path) first mid (of_args x ports channel_args) U (process_at p n t (path ++ n)) two ps so_far step
          (λ q ys here is. record { first = ys; stands = is; goes = λ cs s there out came. (cs, out, ap (then_by q.around (process_at p n t (path ++ n))) came) }))
          closes last
          (λ q cs here is. record { first = cs; stands = is; same = ap (λ m. process_at p n t (m ++ n) cs q.around q.state) (sym same) })

-- ---- a workflow

module _ (p : Place) (n : List ℕ) (t : Tree) where
  -- what is left of it: its arguments, its body, and what that gives
  abbrev body_left : List Channel → Walk Thing
  body_left cs = entered p n t cs >>= called_here n

  abbrev rest_left : List Arg → Walk Thing
  rest_left ys = channel_args ys >>= entered p n t >>= called_here n

  abbrev pub workflow_left : List Arg → Walk Thing
  workflow_left ys = begins_call n [] >>= λ y. rest_left ys

  pub workflow_is : (ys : List Arg) (a : Around) (s : State) → workflow_call p n t ys a s ≡ (unless_fault (called_fault p n t ys s.scope) >>= λ y. workflow_left ys) a s
  workflow_is ys a s = refl

  -- what comes after the arguments, however it is read
  in_a_row : (a : Around) (v : Lowered (List Channel × State)) → then_by a (called_here n) (then_by a (entered p n t) v) ≡ then_by a body_left v
  in_a_row a (Ok y) = refl
  in_a_row a (Err e) = refl

  module _ (K : Known) (x : Args) (first : Lowering) (reads : ArgsRead first.plan x) where
    abbrev Of : Ins (List Arg)
    Of q y ys = AreArgs (bags_of q.run y.plan) x ys

    module _ (so_far : Leads K Of (workflow_call p n t) Of workflow_left first first) where
      pub workflow_fails : (mid : Lowering) (e : LowerFault) → Walked K (due nothing (begins_call n [])) first mid (Err e) → Walked K (of_args x a_thing (workflow_call p n t)) first mid (Err e)
      workflow_fails mid e step =
          fails K Of (workflow_call p n t) Of workflow_left first first (due nothing (begins_call n [])) a_thing mid e so_far step
          (λ q ys here is. record { first = tt; stands = tt; rest = λ y. rest_left ys; same = refl })

      pub workflow_begun : (mid : Lowering) (u : Unit {0}) → Walked K (due nothing (begins_call n [])) first mid (Ok u) → Leads K Of (workflow_call p n t) Of rest_left first mid
      workflow_begun mid u step =
          goes_further K Of (workflow_call p n t) Of workflow_left first first (due nothing (begins_call n [])) Of rest_left mid u so_far step
          (λ q ys here is.
          record {
            first = tt;
            stands = tt;
            goes = λ y s there out came. (ys, moved_on q.run first.plan mid.plan x ys step.later reads.reads is, ap (then_by q.around (λ z. rest_left ys)) came);
          })

    module _ (mid : Lowering) (so_far : Leads K Of (workflow_call p n t) Of rest_left first mid) where
      pub workflow_args_fail : (two : Lowering) (e : LowerFault) → Walked K (of_args x ports channel_args) mid two (Err e) → Walked K (of_args x a_thing (workflow_call p n t)) first two (Err e)
      workflow_args_fail two e step =
          fails K Of (workflow_call p n t) Of rest_left first mid (of_args x ports channel_args) a_thing two e so_far step
          (λ q ys here is. record { first = ys; stands = is; rest = body_left; same = in_a_row q.around (channel_args ys q.around q.state) })

      abbrev Ports_in : Vec Port → Ins (List Channel)
      Ports_in ps q y cs = ports.Stands q.run y.plan ps cs

      pub workflow_args : (two : Lowering) (ps : Vec Port) → Walked K (of_args x ports channel_args) mid two (Ok ps) → Leads K Of (workflow_call p n t) (Ports_in ps) body_left first two
      workflow_args two ps step =
          goes_further K Of (workflow_call p n t) Of rest_left first mid (of_args x ports channel_args) (Ports_in ps) body_left two ps so_far step
          (λ q ys here is. record { first = ys; stands = is; goes = λ cs s there out came. (cs, out, in_a_row q.around (channel_args ys q.around q.state) ∙ ap (then_by q.around body_left) came) })

    module _ (two : Lowering) (ps : Vec Port) (so_far : Leads K Of (workflow_call p n t) (λ q y cs. ports.Stands q.run y.plan ps cs) body_left first two) where
      abbrev enters : Due (List Channel) (Vec CallOutput) (List Output)
      enters = from ports ps outputs (entered p n t)

      pub enter_fails : (three : Lowering) (e : LowerFault) → WalkedAs (GoesInto n) K enters two three (Err e) → Walked K (of_args x a_thing (workflow_call p n t)) first three (Err e)
      enter_fails three e step =
          fails K Of (workflow_call p n t) (λ q y cs. ports.Stands q.run y.plan ps cs) body_left first two enters a_thing three e so_far (fault_walked (GoesInto n) K enters two three e step)
          (λ q cs here is. record { first = cs; stands = is; rest = called_here n; same = refl })

      pub entered_at_last : (three new : Lowering) (os : Vec CallOutput) (r : Result memory.Thing LowerFault) → (GoesInto n two three → Goes first three)
          → WalkedAs (GoesInto n) K enters two three (Ok os) → Walked K (from outputs os a_thing (called_here n)) three new r → Walked K (of_args x a_thing (workflow_call p n t)) first new r
      entered_at_last three new os r closes step last =
          let U = λ (q : Point) (y : Lowering) (z : List Output). outputs.Stands q.run y.plan os z in
          ends K Of (workflow_call p n t) U (called_here n) first three (from outputs os a_thing (called_here n)) new r
          (goes_further_as (GoesInto n) K Of (workflow_call p n t) (λ q y cs. ports.Stands q.run y.plan ps cs) body_left first two enters U (called_here n) three os so_far closes step
          (λ q cs here is. record { first = cs; stands = is; goes = λ z s there out came. (z, out, ap (then_by q.around (called_here n)) came) }))
          last (λ q z here is. record { first = z; stands = is; same = refl })
