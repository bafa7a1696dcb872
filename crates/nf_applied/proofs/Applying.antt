-- The call of an operator that took its arguments.
use Rattle.std.proofs.Common.{◌≡◌, ◌∙◌, ◌+◌, ℕ, zero, suc, true, List, ◌∷◌, length, Result, sym, ap, subst, arith}
use Rattle.std.specs.Global.{Vec}
use Rattle.nf_value.specs.declared.place.Place.{Place}
use Rattle.nf_bag.specs.Options.{Allows}
use Rattle.nf_bag.specs.declared.rows.Row.{Row}
use Rattle.nf_graph.specs.declared.port.Port.{Port}
use Rattle.nf_operator.specs.Row.{takes_ports}
use Rattle.nf_meaning.specs.declared.fault.LowerFault.{LowerFault}
use Rattle.nf_scopes.specs.declared.things.Thing.{Thing}
use Rattle.nf_plan.specs.declared.builder.PlanBuilder.{PlanBuilder}
use Rattle.nf_plan.specs.declared.calls.OperatorCall.{OperatorCall}
use Rattle.nf_plan.specs.Calls.{CanAddOperator}
use Rattle.nf_plan.specs.Plans.{HasRoom, IsPlan, ReadPlan}
use Rattle.nf_follows.specs.Things.{PortReads}
use Rattle.nf_lowering.specs.declared.state.Lowering.{Lowering}
use Rattle.nf_lowering.specs.Nodes.{HasLabels}
use Rattle.nf_taken.specs.Calls.{IsCallOf}
use Rattle.nf_taken.specs.declared.taken.Taken.{Taken}
use Rattle.nf_walked.specs.Filled.{Filled, of_operator}
use Rattle.nf_walked.specs.Steps.{Known}
use Rattle.nf_applied.specs.Applied.{of_applied}
use Rattle.nf_applied.specs.Rooms.{Used}
use Rattle.nf_applied.proofs.Rooms.{uses_fills}

pub first_reads : (b : PlanBuilder) (q : Port) (ps : List Port) → PortReads b q → ReadPlan b ps → ReadPlan b (q ∷ ps)
first_reads b q ps one more zero lt = one
first_reads b q ps one more (suc i) lt = more i (omega (arith, lt))

module _ (p : Place) (r : Row) (q : Port) (v : Taken) (z : OperatorCall × Vec (List ℕ)) (is : IsCallOf v p r q z) where
  pub as_many : length z.0.ports ≡ 1 + length v.ports.items
  as_many = let k : length (q ∷ v.ports.items) ≡ 1 + length v.ports.items = omega arith in ap (λ (ps : List Port). length ps) is.ports ∙ k

  pub can_add : (b : PlanBuilder) → PortReads b q → ReadPlan b v.ports.items → takes_ports r (1 + length v.ports.items) ≡ true → HasRoom b (1 + length v.ports.items) → CanAddOperator b z.0
  can_add b reads more count room = record {
    room = subst (λ m. HasRoom b m) (sym as_many) room;
    body = is.body;
    options = subst (λ k. Allows k z.0.opts) (sym is.row) is.options;
    count = ap (λ k. takes_ports k (length z.0.ports)) is.row ∙ ap (takes_ports r) as_many ∙ count;
    reads = subst (λ ps. ReadPlan b ps) (sym is.ports) (first_reads b q v.ports.items reads more);
  }

  pub has_labels : HasLabels z.0.row z.0.opts z.1.items
  has_labels = subst (λ k. HasLabels k z.0.opts z.1.items) (sym is.row) is.labels

  pub applied_used : (K : Known) (old new : Lowering) (res : Result Thing LowerFault) → IsPlan old.plan → HasRoom old.plan (1 + length v.ports.items)
      → Filled K (length z.0.ports) (of_operator z.0 z.1.items) old new res → Used K 1 (1 + length v.ports.items) (of_applied p r q v) old new res
  applied_used K old new res plan room filled =
      let F : ℕ → Type 0 = λ m. Filled K m (of_operator z.0 z.1.items) old new res in
      let h : F (1 + length v.ports.items) = subst F as_many filled in
      record {
        later = h.later;
        goes = uses_fills (1 + length v.ports.items) old new res plan room h.goes;
        fits = h.fits;
        follows = λ pt y runs stands it.
            h.follows pt (record { place = p; row = r; taken = y.0; channels = y.1 ∷ y.0.channels }) runs stands (is.means pt.run old.plan y.0 y.1 it.0 it.1);
      }
