-- What a finished run comes to is what its plan's graph means under the reports that its tasks gave.
use Rattle.std.proofs.Common.{◌≡◌, ℕ, List, [], map, length, Bool, true, false, ◌&&◌, ◌||◌, ◌⊎◌, refl, ap, sym, ◌∙◌, subst, arith, inl, inr}
use Rattle.std.specs.Prelude.{Option, Some, None, Result, Ok, Err, is_none, is_some, option_map}
use Rattle.std.specs.List.{Contains}
use Rattle.std.proofs.lemmas.Bool.{true≢false}
use Rattle.std.proofs.lemmas.List.{length-map}
use Rattle.nf_value.specs.Plain.{Plain}
use Rattle.nf_value.specs.View.{plain_of as plain_value}
use Rattle.nf_value.specs.declared.place.Place.{Place}
use Rattle.nf_bag.specs.Bag.{IsSameBag}
use Rattle.nf_bag.specs.Tests.{IsSameByTests}
use Rattle.nf_bag.specs.declared.fault.OpFault.{OpFault}
use Rattle.nf_bag.specs.declared.fault.OpFault.TheVariants as op
use Rattle.nf_opstream.specs.Fault.{Fault, fault_of}
use Rattle.nf_opstream.specs.Operator.{Operator}
use Rattle.nf_opstream.proofs.Members.{In, contains}
use Rattle.nf_operator.specs.Row.{operator_of}
use Rattle.nf_tasks.specs.Memory.{Program}
use Rattle.nf_tasks.specs.declared.target_list.Target.{Target}
use Rattle.nf_graph.specs.declared.node.Node.{Node}
use Rattle.nf_graph.specs.declared.node.NodeKind.{NodeKind}
use Rattle.nf_graph.specs.declared.node.NodeKind.TheVariants as k
use Rattle.nf_graph.specs.Rules.{Rules}
use Rattle.nf_graph.specs.Node.{operator, PlainNode, node_at, IsGraph}
use Rattle.nf_graph.specs.Meaning as graph
use Rattle.nf_graph.specs.Meaning.{printed}
use Rattle.nf_graph.specs.Faults.{GraphFault, item_fails, op_fails, task_fails, faults, faults_to}
use Rattle.nf_graph.specs.WellMade.{IsWellMade, node_in, plain_graph, plain_kind, plain_node}
use Rattle.nf_machine.specs.declared.stop.Stop.{Stop}
use Rattle.nf_machine.specs.declared.stop.Stop.TheVariants as stop
use Rattle.nf_machine.specs.declared.stop.Outside.TheVariants.{Lane, Keeper}
use Rattle.nf_machine.specs.Event.{PlainEvent, PlainStop, charge_stop, event_of, fault_stop, memory_stop, op_stop, outside_stop, stop_of}
use Rattle.nf_machine.specs.State.{State}
use Rattle.nf_machine.specs.History.{Agrees, IsHistory, after, all_closed, ended_well, is_over, outcomes_of}
use Rattle.nf_machine.specs.Beside.{IsBeside}
use Rattle.nf_machine.proofs.Membership.{in_of}
use Rattle.nf_flow.specs.Seen.{Seen, plain_of, state_of}
use Rattle.nf_flow.specs.Stopped.{IsNamed}
use Rattle.nf_bodies.specs.declared.body.NodeInfo.{NodeInfo}
use Rattle.nf_bodies.specs.Bodies.{rules_of}
use Rattle.nf_meaning.specs.Meaning.{ScriptMeaning, nothing_meant}
use Rattle.nf_meaning.specs.Report.{AreSameBags, ShowsSame, publish_texts, report_of}
use Rattle.nf_plan.specs.declared.builder.PlanBuilder.{PlanBuilder}
use Rattle.nf_plan.specs.Plans.{graph_of, is_view, place_in}
use Rattle.nf_plan.specs.Runs as plan
use Rattle.nf_plan.specs.Whole.{graph_meaning}
use Rattle.nf_publish.specs.Report.{report_text}
use Rattle.nf_publish.specs.Targets.{HaveOneContent}
use Rattle.nf_published.specs.Published.{published_in, published_of_run, publishing_of}
use Rattle.nf_shown.specs.Shown.{printed_in, views_from, views_of}
use Rattle.nf_ends.specs.declared.end.End.{End}
use Rattle.nf_ends.specs.declared.end.End.TheVariants as end
use Rattle.nf_ends.specs.declared.end.ItemCause.TheVariants.{Op}
use Rattle.nf_ends.specs.declared.writes.Output.{Output}
use Rattle.nf_ends.specs.Stops.{end_by_fault}
use Rattle.nf_owed.specs.Run.{by_path, goes_by, run_of}
use Rattle.nf_owed.specs.Ended.{EndsByStop, events_in, meant_by, state_after}
use Rattle.nf_owed.specs.declared.finished.Finished.{Finished}
use Rattle.nf_owed.specs.Finished.{ComesTo, EndsByClash, GivesFinished, IsRunOf, OwesOutput, RefusesReport, end_in, is_view_node}
use Rattle.nf_owed.proofs.Contents.{by_tests, first_there, one_there, texts_same}
use Rattle.nf_owed.proofs.Paths.{name_is, place_is}
use Rattle.nf_owed.proofs.Agreeing.{agrees_by_path}
use Rattle.nf_owed.proofs.Meanings.{SameAt, are, cost_to, fault_in, named_fault, node_is, none_to, views_same}

-- the laws of the crates below
pub record Laws : Type 0 where
  pub every_order : (g : List PlainNode) (R : Rules) (o : graph.Outcomes) (h : List PlainEvent) → IsGraph g → IsHistory g R h → Agrees o (after g h) → IsBeside g R o (after g h)
  pub own_outcomes : (g : List PlainNode) (R : Rules) (h : List PlainEvent) → IsGraph g → IsHistory g R h → Agrees (outcomes_of (after g h)) (after g h)
  pub well_made : (nodes : List Node) → IsWellMade nodes → IsGraph (plain_graph nodes)
  pub by_bags : (m n : ScriptMeaning) → ShowsSame m n → report_of m ≡ report_of n
  pub printed_as_meant : (g : List PlainNode) (R : Rules) (o : graph.Outcomes) (h : List PlainEvent) (i : ℕ) (p : Operator) → IsGraph g → IsHistory g R h → Agrees o (after g h)
      → ended_well g (after g h) ≡ true → (node_at g i).kind ≡ operator p → IsSameBag (printed_in g h i) (printed R o g i)
  pub published_as_meant : (x : plan.Run) (b : PlanBuilder) (h : List PlainEvent) → IsGraph (graph_of b) → IsHistory (graph_of b) x.rules h → Agrees x.outcomes (after (graph_of b) h)
      → ended_well (graph_of b) (after (graph_of b) h) ≡ true → IsSameByTests (published_in (publishing_of x.program b.infos.items) (graph_of b) h) (graph_meaning x b).targets

-- ---- ends

-- an operator's fault that isn't want of memory
op_end : (f : OpFault) (g : Fault) (p : Place) → fault_of f ≡ Some g → end_by_fault f p ≡ end.ItemFault p (Op f)
op_end (op.DuplicateKey key) g p e = refl
op_end (op.NotATuple item) g p e = refl
op_end (op.NotANumber item) g p e = refl
op_end (op.Overflow total) g p e = refl
op_end (op.TooDeep item) g p e = refl
op_end op.Mem g p e = absurd cc

view_kind : (kind : NodeKind) → is_view kind ≡ true → (p : Operator) × (plain_kind kind ≡ operator p)
view_kind (k.Source items) e = absurd (true≢false (sym e))
view_kind (k.Op row opts) e = (operator_of row opts, refl)
view_kind (k.Process queue) e = absurd (true≢false (sym e))

closed_all : (closed : Bool) (s : Option PlainStop) (quiet : Bool) → (closed || (is_some s && quiet)) ≡ true → s ≡ None → (closed && is_none s) ≡ true
closed_all true None quiet over e = refl
closed_all true (Some x) quiet over e = absurd cc
closed_all false None quiet over e = absurd (true≢false (sym over))
closed_all false (Some x) quiet over e = absurd cc

module _ (laws : Laws) (n : Program) (b : PlanBuilder) (infos : List NodeInfo) (z : Seen) (is : IsRunOf n b infos z) where
  abbrev R : Rules
  R = rules_of n b.infos.items

  abbrev h : List PlainEvent
  h = events_in (run_of n b) z.history

  abbrev s : State
  s = state_after (run_of n b) z.history

  abbrev x : plan.Run
  x = goes_by n b (by_path (run_of n b) (outcomes_of s))

  graph_is : plain_of z ≡ graph_of b
  graph_is = ap plain_graph is.graph

  state_is : state_of z ≡ s
  state_is = ap (λ (g : List PlainNode). after g (map (event_of g) z.history)) graph_is

  lawful : IsHistory (graph_of b) R h
  lawful = subst (λ (g : List PlainNode). IsHistory g R (map (event_of g) z.history)) graph_is is.lawful

  ok : IsGraph (graph_of b)
  ok = laws.well_made b.nodes.items is.plan.graph

  agrees : Agrees x.outcomes s
  agrees = agrees_by_path n b is.plan ok h lawful (laws.own_outcomes (graph_of b) R h ok lawful)

  beside : IsBeside (graph_of b) R x.outcomes s
  beside = laws.every_order (graph_of b) R x.outcomes h ok lawful agrees

  many : length (graph_of b) ≡ length b.nodes.items
  many = length-map b.nodes.items plain_node

  fault_meant : (f : GraphFault) → s.stop ≡ Some (fault_stop f) → Contains (meant_by (run_of n b) z.history).faults (named_fault x b f)
  fault_meant f e =
      let there : In f (faults_to R x.outcomes (graph.bags R x.outcomes (graph_of b)) (graph_of b) (length b.nodes.items)) =
      subst (λ m. In f (faults_to R x.outcomes (graph.bags R x.outcomes (graph_of b)) (graph_of b) m)) many
      (in_of f (faults R x.outcomes (graph_of b)) (beside.fault f e)) in
      contains (named_fault x b f) (graph_meaning x b).faults (fault_in x b f (length b.nodes.items) there)

  op_ends : (node : ℕ) (f : OpFault) (g : Fault) → fault_of f ≡ Some g → s.stop ≡ Some (fault_stop (op_fails node g))
      → EndsByStop (run_of n b) z.history (end_by_fault f (place_in b.infos.items node))
  op_ends node f g e st = subst (EndsByStop (run_of n b) z.history) (sym (op_end f g (place_in b.infos.items node) e)) (record {
    stop = fault_stop (op_fails node g);
    stopped = st;
    named = (sym (place_is n b node), e);
    meant = (g, e, fault_meant (op_fails node g) st);
  })

  op_stops : (node : ℕ) (f : OpFault) (g : Option Fault) → fault_of f ≡ g → is_some g ≡ true → Some (stop_of (stop.Op node f)) ≡ s.stop
      → EndsByStop (run_of n b) z.history (end_by_fault f (place_in b.infos.items node))
  op_stops node f None e some st = absurd (true≢false (sym some))
  op_stops node f (Some g) e some st = op_ends node f g e (sym st ∙ ap Some (op_is node (fault_of f) g e))
    where
      op_is : (node : ℕ) (o : Option Fault) (g : Fault) → o ≡ Some g → op_stop node o ≡ fault_stop (op_fails node g)
      op_is node o g e = ap (op_stop node) e

  stop_ends : (w : Stop) → Some (stop_of w) ≡ s.stop → IsNamed w → EndsByStop (run_of n b) z.history (end_in b.infos.items w)
  stop_ends (stop.Charge sum) st named =
      let past = beside.past_limit sum (sym st) in
      let part = beside.charge in
      let cost = cost_to x b ok (length b.nodes.items) in
      let whole : graph.charge_of R x.outcomes (graph_of b) ≡ graph.charge_to (graph.bags R x.outcomes (graph_of b)) (graph_of b) (length b.nodes.items) = ap (graph.charge_to (graph.bags R x.outcomes (graph_of b)) (graph_of b)) many in
      record {
        stop = charge_stop sum;
        stopped = sym st;
        named = refl;
        meant = (past.1, omega (arith, past.0, part, cost, whole));
      }
  stop_ends (stop.Op node f) st named = op_stops node f (fault_of f) refl named st
  stop_ends (stop.Item node item f) st named = record {
    stop = fault_stop (item_fails node (plain_value item) f);
    stopped = sym st;
    named = (refl, refl, refl);
    meant = fault_meant (item_fails node (plain_value item) f) (sym st);
  }
  stop_ends (stop.Task node inputs m f) st named = record {
    stop = fault_stop (task_fails node inputs m f);
    stopped = sym st;
    named = (sym (name_is n b node), refl, refl, refl);
    meant = fault_meant (task_fails node inputs m f) (sym st);
  }
  stop_ends (stop.Outside Lane) st named = record { stop = outside_stop Lane; stopped = sym st; named = refl; meant = tt }
  stop_ends (stop.Outside Keeper) st named = record { stop = outside_stop Keeper; stopped = sym st; named = refl; meant = tt }
  stop_ends stop.Mem st named = record { stop = memory_stop; stopped = sym st; named = refl; meant = tt }

  pub stopped_comes : (w : Stop) (e : End) → option_map stop_of (Some w) ≡ (state_of z).stop → IsNamed w → (e ≡ end_in infos w) ⊎ (e ≡ end.Mem) → ComesTo (run_of n b) z.history (Err e)
  stopped_comes w e st named either = elim either [
    | inl due ↦ inl (subst (EndsByStop (run_of n b) z.history) (sym (due ∙ ap (λ (xs : List NodeInfo). end_in xs w) is.infos_are)) (stop_ends w (st ∙ ap (λ (u : State). u.stop) state_is) named))
    | inr memory ↦ inr (inr memory)
  ]

  -- ---- a run that ended well

  same_at : ended_well (graph_of b) s ≡ true → SameAt x b (printed_in (graph_of b) h)
  same_at well i view =
      let p = view_kind (node_in b.nodes.items i).kind view in
      laws.printed_as_meant (graph_of b) R x.outcomes h i p.0 ok lawful agrees well (ap (λ (v : PlainNode). v.kind) (node_is b i) ∙ p.1)

  views_are : views_of z (map is_view_node z.graph) ≡ views_from (printed_in (graph_of b) h) 0 (are x b)
  views_are =
      ap (λ (g : List PlainNode). views_from (printed_in g (map (event_of g) z.history)) 0 (map is_view_node z.graph)) graph_is
      ∙ ap (λ (ns : List Node). views_from (printed_in (graph_of b) h) 0 (map is_view_node ns)) is.graph

  -- the files that the run published
  abbrev files : List Target
  files = published_of_run n infos z

  files_are : files ≡ published_in (publishing_of n b.infos.items) (graph_of b) h
  files_are =
      ap (λ (xs : List NodeInfo). published_in (publishing_of n xs) (plain_of z) (map (event_of (plain_of z)) z.history)) is.infos_are
      ∙ ap (λ (g : List PlainNode). published_in (publishing_of n b.infos.items) g (map (event_of g) z.history)) graph_is

  files_meant : ended_well (graph_of b) s ≡ true → IsSameByTests files (graph_meaning x b).targets
  files_meant well = subst (λ (ts : List Target). IsSameByTests ts (graph_meaning x b).targets) (sym files_are) (laws.published_as_meant x b h ok lawful agrees well)

  report_is : (ts : List Target) → ts ≡ files → ended_well (graph_of b) s ≡ true → report_text (views_of z (map is_view_node z.graph)) ts ≡ report_of (meant_by (run_of n b) z.history)
  report_is ts told well =
      let shown : ScriptMeaning = record nothing_meant { views = views_of z (map is_view_node z.graph); targets = ts } in
      laws.by_bags shown (graph_meaning x b) (record {
        views = subst (λ (vs : List (List Plain)). AreSameBags vs (graph_meaning x b).views) (sym views_are) (views_same x b (printed_in (graph_of b) h) (same_at well));
        targets = subst (λ (us : List Target). IsSameBag (publish_texts us) (publish_texts (graph_meaning x b).targets)) (sym told)
            (texts_same files (graph_meaning x b).targets (by_tests files (graph_meaning x b).targets (files_meant well)));
      })

  well_of : is_over (plain_of z) (state_of z) ≡ true → (state_of z).stop ≡ None → ended_well (graph_of b) s ≡ true
  well_of over running =
      let here : is_over (graph_of b) s ≡ true = subst (λ (g : List PlainNode). is_over g (after g (map (event_of g) z.history)) ≡ true) graph_is over in
      closed_all (all_closed (graph_of b) s) s.stop _ here (ap (λ (u : State). u.stop) (sym state_is) ∙ running)

  no_faults : ended_well (graph_of b) s ≡ true → (meant_by (run_of n b) z.history).faults ≡ []
  no_faults well = none_to x b (length b.nodes.items) (ap (faults_to R x.outcomes (graph.bags R x.outcomes (graph_of b)) (graph_of b)) (sym many) ∙ beside.faultless well)

  refuses : ended_well (graph_of b) s ≡ true → (e : End) → RefusesReport files e → EndsByClash (run_of n b) z.history e ⊎ (e ≡ end.Mem)
  refuses well (end.PublishClash c) why = inl (record {
    well = well;
    faultless = no_faults well;
    first = first_there files (graph_meaning x b).targets (by_tests files (graph_meaning x b).targets (files_meant well)) c why;
  })
  refuses well end.Mem why = inr refl
  refuses well e why = absurd why

  pub well_comes : (r : Result Finished End) → is_over (plain_of z) (state_of z) ≡ true → option_map stop_of (let o : Option Stop = None in o) ≡ (state_of z).stop → GivesFinished n infos z r → ComesTo (run_of n b) z.history r
  well_comes (Ok f) over running gives =
      let well = well_of over (sym running) in
      let meant = files_meant well in
      subst (λ (o : Output). OwesOutput (run_of n b) z.history f.targets o) (sym gives.1) (
        record {
          well = well;
          faultless = no_faults well;
          one = one_there files (graph_meaning x b).targets (by_tests files (graph_meaning x b).targets meant) (subst HaveOneContent gives.0 gives.2);
          report_is = report_is f.targets gives.0 well;
          targets_are = subst (λ (ts : List Target). IsSameByTests ts (graph_meaning x b).targets) (sym gives.0) meant;
        },
        refl,
      )
  well_comes (Err e) over running gives = inr (refuses (well_of over (sym running)) e gives)
