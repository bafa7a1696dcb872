-- The calls of operators.
use Rattle.std.proofs.Common.{◌≡◌, ◌∙◌, ◌<◌, ◌^◌, ℕ, Bool, true, false, List, [], ◌∷◌, length, sym, ap, subst}
use Rattle.std.specs.Prelude.{if◌then◌else◌}
use Rattle.nf_value.specs.declared.place.Place.{Place}
use Rattle.nf_bag.specs.declared.options.OpOpts.{OpOpts}
use Rattle.nf_bag.specs.declared.rows.Row.{Row}
use Rattle.nf_bag.specs.declared.rows.Row.TheVariants as row
use Rattle.nf_bodies.specs.Means.{AnswersAs, HasNothing}
use Rattle.nf_graph.specs.declared.port.Port.{Port}
use Rattle.nf_operator.specs.Row.{operator_of}
use Rattle.nf_optable.specs.declared.operator.Operator.{Operator}
use Rattle.nf_optable.specs.declared.operator.Operator.TheVariants.{Bag}
use Rattle.nf_optable.specs.declared.rows.OpRow.{OpRow}
use Rattle.nf_tasks.specs.Memory.{Program}
use Rattle.nf_meaning.specs.declared.fault.LowerFault.TheVariants.{WrongArity}
use Rattle.nf_meaning.specs.Operators.{by_operator, operator_call, operator_with}
use Rattle.nf_meaning.specs.Nodes.{PortsStand}
use Rattle.nf_meaning.specs.Taken as meaning
use Rattle.nf_meaning.specs.Taken.{takes}
use Rattle.nf_meaning.specs.Things.{Thing}
use Rattle.nf_meaning.specs.Walk.{Walk, refused}
use Rattle.nf_plan.specs.Plans.{is_process}
use Rattle.nf_plan.specs.Runs.{bags_of}
use Rattle.nf_plan.specs.declared.calls.OperatorCall.{OperatorCall}
use Rattle.nf_lowering.specs.Nodes.{HasLabels}
use Rattle.nf_taken.specs.declared.taken.Taken.{Taken}
use Rattle.nf_taken.specs.Calls.{IsCallOf, IsCalled, IsSetOf, Settles, TookBody}

-- ---- the operator

module _ (p : Place) (k : OpRow) (n : ℕ) where
  abbrev call_if : Bool → (Row → Walk Thing) → Walk Thing
  call_if b w = if b then by_operator p k.operator w else refused (WrongArity p)

  pub wrong_count : false ≡ takes k n → (w : Row → Walk Thing) → operator_call p k n w ≡ refused (WrongArity p)
  wrong_count h w = ap (λ b. call_if b w) (sym h)

  pub right_count : true ≡ takes k n → (o : Operator) → k.operator ≡ o → (w : Row → Walk Thing) → operator_call p k n w ≡ by_operator p o w
  right_count h o is w = ap (λ b. call_if b w) (sym h) ∙ ap (λ q. by_operator p q w) is

  pub called : true ≡ takes k n → (r : Row) → k.operator ≡ Bag r → IsCalled p k n r
  called h r is = record { operator = is; takes_it = sym h; goes_on = right_count h (Bag r) is }

-- ---- labels

labels_have : (r : Row) (o : OpOpts) (ns : List (List ℕ)) → o.outs ≡ length ns → HasLabels r o ns
labels_have row.Branch o ns h = h
labels_have row.MultiMap o ns h = h
labels_have _ o ns h = tt

-- ---- calls

pub call_of : (x : Taken) (p : Place) (r : Row) (first : Port) (z : OperatorCall) (outs : ℕ) → z.place ≡ p → z.row ≡ r → z.ports ≡ first ∷ x.ports.items
    → outs ≡ length x.labels.items → outs < 2 ^ 32 → Settles r x.opts x.start outs z.opts → is_process z.body ≡ false
    → ((n : Program) (t : meaning.Taken) → TookBody n x.closing x.pattern x.literal t → AnswersAs n z.body r t) → IsCallOf x p r first (z, x.labels)
call_of x p r first z outs place row ports count few settles body answers =
    let P : ℕ → Type 0 = λ k. (k < 2 ^ 32) × Settles r x.opts x.start k z.opts in
    let has = subst P count (few, settles) in
    record {
      row = row;
      ports = ports;
      options = has.1.allows;
      body = body;
      labels = labels_have r z.opts x.labels.items has.1.counts;
      few = has.0;
      means = λ n b t c is stands. record {
        call = record {
          place = place;
          row = row;
          operator = ap (λ q. operator_of q z.opts) row ∙ has.1.same ∙ (λ i. operator_with r (is.options i) (is.start i));
          answers = answers n.program t (record { closing = is.closing; matches = is.pattern; equals = is.literal });
          ports = subst (λ ps. PortsStand (bags_of n b) ps (c ∷ t.channels)) (sym ports) (stands, is.channels);
        };
        labels = is.labels;
      };
    }

pub set_of : (p : Place) (port : Port) (z : OperatorCall) → z.place ≡ p → z.row ≡ row.Set → z.ports ≡ port ∷ [] → is_process z.body ≡ false
    → ((n : Program) (t : meaning.Taken) → HasNothing t → AnswersAs n z.body row.Set t) → IsSetOf p port z
set_of p port z place is ports body answers = record {
  row = is;
  ports = ports;
  options = tt;
  body = body;
  means = λ n b t c took stands. record {
    call = record {
      place = place;
      row = is;
      operator = ap (λ q. operator_of q z.opts) is;
      answers = answers n.program t took.nothing;
      ports = subst (λ ps. PortsStand (bags_of n b) ps (c ∷ [])) (sym ports) (stands, tt);
    };
    labels = sym took.labels;
  };
}
