-- The outcomes that a history tells agree with it by the paths of calls too.
use Rattle.std.proofs.Common.{◌≡◌, ℕ, List, [], ◌∷◌, ◌++◌, Bool, true, refl, ap, sym, subst, arith, ◌⊎◌, inl, inr}
use Rattle.std.specs.List.{AllByRecursion}
use Rattle.nf_value.specs.Plain.{Plain}
use Rattle.nf_job.specs.declared.report.Report.{Report}
use Rattle.nf_opstream.proofs.Tally.{passes}
use Rattle.nf_opstream.proofs.Members.{In}
use Rattle.nf_tasks.specs.Memory.{Program}
use Rattle.nf_graph.specs.Rules.{Rules}
use Rattle.nf_graph.specs.Node.{Kind, source, operator, process, PlainNode, node_at, IsGraph}
use Rattle.nf_graph.specs.Meaning as graph
use Rattle.nf_machine.specs.Event.{PlainEvent}
use Rattle.nf_machine.specs.State.{Take, Ended, Ticket, Spot, State}
use Rattle.nf_machine.specs.Legal.{IsProcessKind}
use Rattle.nf_machine.specs.History.{Agrees, IsHistory, IsPrefix, after, outcomes_of}
use Rattle.nf_machine.proofs.Ends.{history_good}
use Rattle.nf_machine.proofs.Good.{FlightOk, Formed, Good, MadeOk}
use Rattle.nf_machine.proofs.Membership.{in_of}
use Rattle.nf_bodies.specs.Bodies.{rules_of}
use Rattle.nf_plan.specs.declared.builder.PlanBuilder.{PlanBuilder}
use Rattle.nf_plan.specs.Plans.{IsPlan, graph_of, name_in}
use Rattle.nf_owed.specs.Run.{by_path, run_of}
use Rattle.nf_owed.proofs.Paths.{path_told}
use Rattle.nf_owed.proofs.Untold.{NoneTold, Untold, none_told}

decide : (kind : Kind) → IsProcessKind kind ⊎ (IsProcessKind kind → ⊥)
decide (source items) = inr (λ z. z)
decide (operator op) = inr (λ z. z)
decide (process q) = inl tt

each_in : {A : Type 0} (P : A → Type 0) (xs : List A) (x : A) → AllByRecursion P xs → In x xs → P x
each_in P [] x a m = absurd m
each_in P (y ∷ xs) x a m = elim m [ inl e ↦ subst P (sym e) a.0 | inr r ↦ each_in P xs x a.1 r ]

some_passes : {A : Type 0} (x : A) (xs : List A) → In x xs → passes (λ (y : A). true) xs ≡ 0 → ⊥
some_passes x [] m z = m
some_passes x (y ∷ xs) m z = omega (arith, z)

none_taken : (E : ℕ → Spot) (nd : PlainNode) (items : List Plain) (ts : List Take) → AllByRecursion (Formed E nd (source items)) ts → passes (λ (t : Take). true) ts ≡ 0
none_taken E nd items [] f = refl
none_taken E nd items (t ∷ ts) f = absurd f.0

-- only a process's task comes back
process_of : (E : ℕ → Spot) (nd : PlainNode) (R : Rules) (ts : List Ticket) (going : Bool) (i : ℕ) (sp : Spot) (e : Ended) → In e sp.ended → FlightOk ts going i sp
    → (kind : Kind) → MadeOk R i kind sp → AllByRecursion (Formed E nd kind) sp.taken → IsProcessKind kind
process_of E nd R ts going i sp e m flight (source items) made formed =
    some_passes e sp.ended m (let a = none_taken E nd items sp.taken formed in let most = flight.most (λ t. true) in omega (arith, a, most))
process_of E nd R ts going i sp e m flight (operator op) made formed = some_passes e sp.ended m (ap (passes (λ (x : Ended). true)) made.no_ended)
process_of E nd R ts going i sp e m flight (process q) made formed = tt

untold_prefix : (told rs : List Report) → told ≡ [] → IsPrefix told rs
untold_prefix told rs e = record { rest = rs; is = sym (ap (λ (v : List Report). v ++ rs) e) }

module _ (n : Program) (b : PlanBuilder) (plan : IsPlan b) (ok : IsGraph (graph_of b)) (h : List PlainEvent) (lawful : IsHistory (graph_of b) (rules_of n b.infos.items) h) where
  abbrev own : graph.Outcomes
  own = outcomes_of (after (graph_of b) h)

  abbrev named : graph.Outcomes
  named i inputs m = by_path (run_of n b) own (name_in b.infos.items i) inputs m

  ticket_agrees : (k : Ticket) → NoneTold (graph_of b) k → IsPrefix k.told (own k.node k.take.inputs k.take.n) → IsPrefix k.told (named k.node k.take.inputs k.take.n)
  ticket_agrees k untold is = elim (decide (node_at (graph_of b) k.node).kind) [
    | inl task ↦ subst (IsPrefix k.told) (sym (path_told n b plan k.node own k.take.inputs k.take.n task)) is
    | inr other ↦ untold_prefix k.told (named k.node k.take.inputs k.take.n) (untold other)
  ]

  pub agrees_by_path : Agrees own (after (graph_of b) h) → Agrees named (after (graph_of b) h)
  agrees_by_path agree =
      let s : State = after (graph_of b) h in
      let good : Good (graph_of b) (rules_of n b.infos.items) s = history_good (graph_of b) (rules_of n b.infos.items) ok h lawful in
      let untold : Untold (graph_of b) s = none_told (graph_of b) (rules_of n b.infos.items) h lawful in
      record {
        ended = λ i e c.
            let spot = good.spots i in
            let task : IsProcessKind (node_at (graph_of b) i).kind = process_of s.spots (node_at (graph_of b) i) (rules_of n b.infos.items) s.tickets _ i (s.spots i) e
            (in_of e (s.spots i).ended c) spot.flight (node_at (graph_of b) i).kind spot.made spot.takes.formed in
            subst (IsPrefix e.told) (sym (path_told n b plan i own e.take.inputs e.take.n task)) (agree.ended i e c);
        gone = λ k c. ticket_agrees k (each_in (NoneTold (graph_of b)) s.gone k untold.gone (in_of k s.gone c)) (agree.gone k c);
        flying = λ k c. ticket_agrees k (each_in (NoneTold (graph_of b)) s.tickets k untold.tickets (in_of k s.tickets c)) (agree.flying k c);
      }
