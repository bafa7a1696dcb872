-- In the body of a workflow that is called, and back.
use Rattle.std.proofs.Common.{◌≡◌, ◌∷◌, ◌++◌, [], ℕ, suc, zero, ◌-◌, Bool, true, false, List, Option, Result, Ok, Err, OnOk, IfOk, drop, map, refl, sym, ap, subst, ◌∙◌}
use Rattle.std.specs.Prelude.{string_bytes}
use Rattle.std.specs.Global.{Vec}
use Rattle.nf_value.specs.Plain.{Plain}
use Rattle.nf_value.specs.declared.place.Place.{Place}
use Rattle.nf_ast.specs.Tree.{Tree}
use Rattle.nf_builtins.specs.Natives.{is_among}
use Rattle.nf_graph.specs.declared.port.Port.{Port}
use Rattle.nf_lowered.specs.Given.{Gives}
use Rattle.nf_lowered.proofs.Joining.{fault_by}
use Rattle.nf_meaning.specs.declared.fault.LowerFault.{LowerFault}
use Rattle.nf_meaning.specs.declared.fault.LowerFault.TheVariants.{CallCycle, Mem}
use Rattle.nf_meaning.specs.Given.{files_at}
use Rattle.nf_meaning.specs.CallPaths.{BodyCalls, GoesOn, HasNoPath, Within, inside, is_plain_name}
use Rattle.nf_meaning.specs.Calls.{entered}
use Rattle.nf_meaning.specs.Nodes.{PortsStand}
use Rattle.nf_meaning.specs.Lowered.{Lowered}
use Rattle.nf_meaning.specs.Script.{around_at, back_in, body_in, bound, enter_in, inner_scope, take_in, workflow_walk}
use Rattle.nf_meaning.specs.Things.{Channel, Output, outputs as given_outputs}
use Rattle.nf_meaning.specs.Walk.{Around, Scope, State, Step}
use Rattle.nf_scopes.specs.declared.things.CallOutput.{CallOutput}
use Rattle.nf_scopes.specs.declared.things.Thing.{Thing}
use Rattle.nf_scopes.specs.Tables.{Table, TableStands}
use Rattle.nf_scopes.specs.Things.{output_of, thing_of}
use Rattle.nf_graph.specs.Meaning.{Bags}
use Rattle.nf_meaning.specs.Stands.{results}
use Rattle.nf_plan.specs.declared.builder.PlanBuilder.{PlanBuilder}
use Rattle.nf_plan.specs.Plans.{ReadPlan}
use Rattle.nf_plan.specs.Runs.{Run, RunsNodes, bags_of}
use Rattle.nf_follows.specs.Extends.{Extends}
use Rattle.nf_follows.specs.Things.{ThingReads}
use Rattle.nf_around.specs.declared.surroundings.Surroundings.{Surroundings}
use Rattle.nf_around.specs.Around.{IsAround}
use Rattle.nf_lowering.specs.declared.state.Lowering.{Lowering}
use Rattle.nf_lowering.specs.State.{IsLowering, calls_in}
use Rattle.nf_lowering.specs.declared.workflows.Outer.{Outer}
use Rattle.nf_lowering.specs.Workflows.{ComesBack, EntersBody, IsAside, IsBack, TableReads, calls_back}
use Rattle.nf_walked.specs.declared.walker.Walker.{Walker}
use Rattle.nf_walked.specs.Around.{CanCall, Knows}
use Rattle.nf_walked.specs.Forms.{outputs, ports as read}
use Rattle.nf_walked.specs.Steps.{Came, Known, Later, Point, StandsAt, Walked, due, from}
use Rattle.nf_takes.specs.Takes.{OnlyPorts}
use Rattle.nf_calling.specs.Goes.{GoesInto, HasBegun, WalkedAs}
use Rattle.nf_walked.proofs.Goings.{later_again, later_same}
use Rattle.nf_walked.proofs.Stepping.{later_as, rooms_as}

-- ---- what is around the body

-- calls of workflows change nothing else around a body
only_enter : (o : Around) (k : ℕ) → around_at o k ≡ record o { enter = (around_at o k).enter }
only_enter o zero = refl
only_enter o (suc k) = refl

module _ {N : Type 0} (titles_of : N → List (List ℕ)) (answer_of : N → ℕ → List Plain → Option Plain) where
  same_around : (x : Surroundings N) (o : Around) (e f : Place → List ℕ → Tree → List Channel → Step (List Output))
      → IsAround titles_of answer_of x (record o { enter = e }) → IsAround titles_of answer_of x (record o { enter = f })
  same_around x o e f h = record {
    script = h.script;
    everywhere = record {
      program = h.everywhere.program;
      patterns = h.everywhere.patterns;
      functions = h.everywhere.functions;
      values = h.everywhere.values;
    };
    definitions = h.definitions;
  }

  -- what is around the body of a workflow that is called
  pub record Inner (y : Walker N) (r : Run) (a : Around) : Type 0 where
    pub around : Around
    pub knows : Knows titles_of answer_of y r around
    pub enter : (p : Place) (n : List ℕ) (t : Tree) (cs : List Channel) (s : State) → a.enter p n t cs s ≡ enter_in around p n t cs s

  inner_at : (x : Walker N) (r : Run) (o : Around) (k : ℕ) → ((p : Place) (n : List ℕ) (t : Tree) (cs : List Channel) (s : State) → o.enter p n t cs s ≡ Err (CallCycle p))
      → Knows titles_of answer_of x r (around_at o (suc k)) → Inner (record x { left = k }) r (around_at o (suc k))
  inner_at x r o k none h = record {
    around = around_at o k;
    knows = record {
      around =
          (let P : Around → Type 0 = λ c. IsAround titles_of answer_of x.around.now c in
          subst P (sym (only_enter o k)) (same_around x.around.now o (enter_in (around_at o k)) (around_at o k).enter h.around));
      definitions = ap (λ (c : Around). c.definitions) (only_enter o k) ∙ h.definitions;
      program = h.program ∙ ap (λ (c : Around). c.given.program) (sym (only_enter o k));
      outcomes = h.outcomes ∙ ap (λ (c : Around). c.given.outcomes) (sym (only_enter o k));
      found = λ path. h.found path ∙ ap (λ (c : Around). files_at path c.given.found) (sym (only_enter o k));
      calls = record { outermost = o; is = refl; none = none };
    };
    enter = λ p n t cs s. refl;
  }

  pub inner_of : (x : Walker N) (r : Run) (a : Around) (k : ℕ) → x.left ≡ suc k → Knows titles_of answer_of x r a → Inner (record x { left = k }) r a
  inner_of x r a k left h =
      let e : a ≡ around_at h.calls.outermost (suc k) = h.calls.is ∙ ap (around_at h.calls.outermost) left in
      let P : Around → Type 0 = λ c. Knows titles_of answer_of x r c in
      let Q : Around → Type 0 = λ c. Inner (record x { left = k }) r c in
      subst Q (sym e) (inner_at x r h.calls.outermost k h.calls.none (subst P e h))

  -- no call may lead on
  pub none_left : (x : Walker N) (r : Run) (a : Around) → x.left ≡ 0 → Knows titles_of answer_of x r a
      → (p : Place) (n : List ℕ) (t : Tree) (cs : List Channel) (s : State) → a.enter p n t cs s ≡ Err (CallCycle p)
  none_left x r a left h p n t cs s =
      let e : a ≡ h.calls.outermost = h.calls.is ∙ ap (around_at h.calls.outermost) left in
      ap (λ (c : Around). c.enter p n t cs s) e ∙ h.calls.none p n t cs s

-- ---- the walk through it

-- what the laws of paths say of the call of a workflow
abbrev pub AroundBody : Type 0
AroundBody = (s t i u : BodyCalls) (n : List ℕ) → GoesOn s t → is_plain_name n ≡ true → is_among n s.called ≡ false → is_among n t.called ≡ true
    → GoesOn (inside n t) i → u.path ≡ t.path → u.called ≡ t.called → u.paths ≡ i.paths → GoesOn s u

abbrev pub NoneMore : Type 0
NoneMore = (s t : BodyCalls) → t.path ≡ s.path → t.paths ≡ s.paths → Within s.called t.called → GoesOn s t

-- the body of the call, before it and in it: `names` has the channels that it takes
pub record IsInside (n : List ℕ) (body : Tree) (ports : List Port) (names : Table) (outer : Outer) (old one : Lowering) : Type 0 where
  pub can : HasBegun n old
  pub keeps : IsLowering old
  pub aside : IsAside old outer
  pub enters : EntersBody n names old one
  pub plan : one.plan ≡ old.plan
  pub calls : calls_in one ≡ inside n (calls_in old)
  pub within : one.within.items ≡ n ∷ old.within.items
  pub table : (bags : Bags) (cs : List Channel) → PortsStand bags ports cs → TableStands bags names (bound (take_in body) cs)

-- and back
pub record IsOutside (outer : Outer) (two new : Lowering) : Type 0 where
  pub back : ComesBack outer two new
  pub plan : new.plan ≡ two.plan
  pub calls : calls_in new ≡ calls_back outer (calls_in two)
  pub within : new.within.items ≡ drop 1 two.within.items

-- the body of the call, as the step into it tells it by the name in memory
pub is_inside : (n m : List ℕ) (body : Tree) (ports : List Port) (names : Table) (outer : Outer) (old one : Lowering) → m ≡ n → HasBegun n old → IsLowering old → IsAside old outer
    → EntersBody m names old one → one.plan ≡ old.plan → calls_in one ≡ inside m (calls_in old) → one.within.items ≡ m ∷ old.within.items
    → ((bags : Bags) (cs : List Channel) → PortsStand bags ports cs → TableStands bags names (bound (take_in body) cs)) → IsInside n body ports names outer old one
is_inside n m body ports names outer old one same can keeps aside enters plan calls within table = record {
  can = can;
  keeps = keeps;
  aside = aside;
  enters = subst (λ (l : List ℕ). EntersBody l names old one) same enters;
  plan = plan;
  calls = subst (λ (l : List ℕ). calls_in one ≡ inside l (calls_in old)) same calls;
  within = subst (λ (l : List ℕ). one.within.items ≡ l ∷ old.within.items) same within;
  table = table;
}

-- the names that are taken stand for the channels
pub names_stand : (body : Tree) (taken : List Tree) (given ports : List Port) (names : Table) → taken ≡ take_in body → given ≡ ports
    → ((bags : Bags) (cs : List Channel) → PortsStand bags given cs → TableStands bags names (bound taken cs))
    → (bags : Bags) (cs : List Channel) → PortsStand bags ports cs → TableStands bags names (bound (take_in body) cs)
names_stand body taken given ports names is same h bags cs stand =
    subst (λ (ts : List Tree). TableStands bags names (bound ts cs)) is (h bags cs (subst (λ (ps : List Port). PortsStand bags ps cs) (sym same) stand))

pub table_reads : (b : PlanBuilder) (given ports : List Port) (names : Table) → given ≡ ports → OnlyPorts given names → ReadPlan b ports → TableReads b names
table_reads b given ports names same only reads n t h =
    let it = only n t h in
    subst (λ (u : Thing). ThingReads b (thing_of u)) (sym it.2) (subst (λ (ps : List Port). ReadPlan b ps) (sym same) reads it.0 it.1)

module _ {N : Type 0} (titles_of : N → List (List ℕ)) (answer_of : N → ℕ → List Plain → Option Plain) (x : Walker N) (k : ℕ) (left : x.left ≡ suc k)
    (p : Place) (n : List ℕ) (t body : Tree) (called : body_in t ≡ body) (given : Vec Port) (names : Table) (outer : Outer) (old one two : Lowering) where
  abbrev ports : List Port
  ports = given.items

  abbrev y : Walker N
  y = record x { left = k }

  abbrev Before : Known
  Before = Knows titles_of answer_of x

  abbrev During : Known
  During = Knows titles_of answer_of y

  -- where the body begins
  inside_at : IsInside n body ports names outer old one → (q : Point) (cs : List Channel) → StandsAt Before q old → PortsStand (bags_of q.run old.plan) ports cs → Point
  inside_at i q cs stands h = record {
    run = q.run;
    around = (inner_of titles_of answer_of x q.run q.around k left stands.around).around;
    braces = [];
    state = record q.state { scope = inner_scope n body cs q.state.scope };
  }

  begins_at : (i : IsInside n body ports names outer old one) (q : Point) (cs : List Channel) (stands : StandsAt Before q old) (h : PortsStand (bags_of q.run old.plan) ports cs)
      → StandsAt During (inside_at i q cs stands h) one
  unfolding inside_at
  begins_at i q cs stands h = record {
    body = i.enters q.braces q.run q.state body cs stands.body (i.table (bags_of q.run old.plan) cs h);
    around = (inner_of titles_of answer_of x q.run q.around k left stands.around).knows;
  }

  -- the call comes to what the body comes to
  comes : (i : IsInside n body ports names outer old one) (q : Point) (cs : List Channel) (stands : StandsAt Before q old) (h : PortsStand (bags_of q.run old.plan) ports cs)
      → entered p n t cs q.around q.state
      ≡ back_in q.state.scope (workflow_walk body (inside_at i q cs stands h).around (inside_at i q cs stands h).state)
  unfolding inner_of inside_at
  comes i q cs stands h =
      (inner_of titles_of answer_of x q.run q.around k left stands.around).enter p n t cs q.state
      ∙ ap (λ (b : Tree). back_in q.state.scope (workflow_walk b (inside_at i q cs stands h).around (record q.state { scope = inner_scope n b cs q.state.scope }))) called

  first_later : IsInside n body ports names outer old one → Later old.plan one.plan
  first_later i = later_as old.plan one.plan i.plan

  pub into_fails : (e : LowerFault) → IsInside n body ports names outer old one → Walked During (due outputs (workflow_walk body)) one two (Err e)
      → WalkedAs (GoesInto n) Before (from read given outputs (entered p n t)) old two (Err e)
  unfolding inside_at
  into_fails e i walk = record {
    later = later_again old.plan one.plan two.plan (first_later i) walk.later;
    goes = tt;
    fits = tt;
    follows = λ q cs runs stands h.
        (let at_first = inside_at i q cs stands h in
        let w = workflow_walk body at_first.around at_first.state in
        fault_by w (entered p n t cs q.around q.state) e (λ f. comes i q cs stands h ∙ ap (back_in q.state.scope) f)
        (walk.follows at_first tt runs (begins_at i q cs stands h) tt));
  }

  pub into_gives : (new : Lowering) (os : Vec CallOutput) → AroundBody → NoneMore → ((b : PlanBuilder) → Extends b b) → IsInside n body ports names outer old one
      → Walked During (due outputs (workflow_walk body)) one two (Ok os) → IsOutside outer two new → WalkedAs (GoesInto n) Before (from read given outputs (entered p n t)) old new (Ok os)
  unfolding inside_at
  into_gives new os law more same i walk o = record {
    later = later_again old.plan one.plan new.plan (first_later i) (later_again one.plan two.plan new.plan walk.later last);
    goes = record {
      keeps = come.keeps;
      calls = λ s g none.
          law s (calls_in old) (calls_in two) (calls_in new) n g i.can.plain none i.can.begun went (ap (λ (c : BodyCalls). c.path) o.calls ∙ i.aside.path)
          (ap (λ (c : BodyCalls). c.called) o.calls ∙ ap (λ (z : _). map string_bytes z.keys) i.aside.called) (ap (λ (c : BodyCalls). c.paths) o.calls);
      room = λ b h. rooms_as two.plan new.plan o.plan b (walk.goes.room b (rooms_as old.plan one.plan i.plan b h));
      within = o.within ∙ ap (drop 1) (walk.goes.within ∙ i.within);
    };
    fits = last.reads (results (map output_of os.items)) walk.fits;
    follows = λ q cs runs stands h.
        (let at_first = inside_at i q cs stands h in
        let it = walk.follows at_first tt (last.runs q.run runs) (begins_at i q cs stands h) tt in
        record {
          value = (it.value.0, record it.value.1 { scope = q.state.scope });
          is = comes i q cs stands h ∙ ap (back_in q.state.scope) it.is;
          fits = record {
            stands = record { body = come.stands q.braces [] q.run q.state it.value.1 stands.body it.fits.stands.body; around = stands.around };
            out = last.stands q.run (results (map output_of os.items)) (given_outputs it.value.0) walk.fits it.fits.out;
          };
        });
  }
    where
      last : Later two.plan new.plan
      last = later_as two.plan new.plan o.plan

      went : GoesOn (inside n (calls_in old)) (calls_in two)
      went =
          (let P : BodyCalls → Type 0 = λ c. GoesOn c (calls_in two) in
          subst P i.calls (walk.goes.calls (calls_in one) (more (calls_in one) (calls_in one) refl refl (λ m e. e))))

      come : IsBack old two new
      come =
          o.back n old
          (record {
            aside = i.aside;
            keeps = i.keeps;
            plain = i.can.plain;
            begun = i.can.begun;
            extends = walk.later.extends old.plan ((first_later i).extends old.plan (same old.plan));
            calls = went;
            within = walk.goes.within ∙ i.within;
          })

-- ---- where the body isn't gone through

module _ {N : Type 0} (titles_of : N → List (List ℕ)) (answer_of : N → ℕ → List Plain → Option Plain) (x : Walker N) (p : Place) (n : List ℕ) (t : Tree) (given : Vec Port) where
  -- no call may lead on
  pub into_none : (z : Lowering) → x.left ≡ 0 → WalkedAs (GoesInto n) (Knows titles_of answer_of x) (from read given outputs (entered p n t)) z z (Err (CallCycle p))
  into_none z left = record {
    later = later_same z.plan;
    goes = tt;
    fits = tt;
    follows = λ q cs runs stands h. none_left titles_of answer_of x q.run q.around left stands.around p n t cs q.state;
  }

  -- want of memory
  pub into_lost : (old new : Lowering) → new.plan ≡ old.plan → WalkedAs (GoesInto n) (Knows titles_of answer_of x) (from read given outputs (entered p n t)) old new (Err Mem)
  into_lost old new plan = record { later = later_as old.plan new.plan plan; goes = tt; fits = tt; follows = λ q cs runs stands h. tt }
