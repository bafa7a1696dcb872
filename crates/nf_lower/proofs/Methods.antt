-- Operators on what was made before.
use Rattle.std.proofs.Common.{◌≡◌, ℕ, List, Result, Err, refl, sym, ap, subst}
use Rattle.std.specs.Prelude.{None, map}
use Rattle.std.specs.Global.{Vec}
use Rattle.nf_value.specs.Plain.{Plain}
use Rattle.nf_value.specs.View.{plain_of}
use Rattle.nf_value.specs.declared.place.Place.{Place}
use Rattle.nf_value.specs.declared.value.Value.{Value}
use Rattle.nf_graph.specs.declared.port.Port.{Port}
use Rattle.nf_graph.specs.Meaning.{Bags}
use Rattle.nf_meaning.specs.declared.fault.LowerFault.{LowerFault}
use Rattle.nf_meaning.specs.declared.fault.LowerFault.TheVariants.{BadOption, UnknownName}
use Rattle.nf_meaning.specs.Arguments.{Arg}
use Rattle.nf_meaning.specs.Stands.{PortOutput, ThingStands, known, read, results}
use Rattle.nf_meaning.specs.Things as meaning
use Rattle.nf_meaning.specs.Things.{a_value, a_channel, outputs}
use Rattle.nf_meaning.specs.Walk.{Around, State, Walk}
use Rattle.nf_meaning.specs.Workflow as workflow
use Rattle.nf_optable.specs.Rows.{operator_rows, row_of}
use Rattle.nf_scopes.specs.declared.things.CallOutput.{CallOutput}
use Rattle.nf_scopes.specs.declared.things.Thing.{Thing}
use Rattle.nf_scopes.specs.declared.things.Thing.TheVariants as thing
use Rattle.nf_scopes.specs.Things.{output_of, thing_of}
use Rattle.nf_plan.specs.Runs.{bags_of}
use Rattle.nf_lowering.specs.declared.state.Lowering.{Lowering}
use Rattle.nf_lowering.specs.State.{IsLowering}
use Rattle.nf_arguments.specs.declared.args.Args.{Args}
use Rattle.nf_arguments.specs.Args.{AreArgs}
use Rattle.nf_walked.specs.Forms.{a_thing}
use Rattle.nf_walked.specs.Parts.{of_call}
use Rattle.nf_walked.specs.Steps.{Known, Point, Walked}
use Rattle.nf_walked.proofs.Leads.{Ins, begins, ends, is_refused}

-- ---- the call of an operator by its name

module _ (q p : Place) (n : List ℕ) where
  abbrev method : meaning.Thing → List Arg → Walk meaning.Thing
  method y ys = workflow.method_of q p n ys y

  abbrev operator : meaning.Thing → List Arg → Walk meaning.Thing
  operator y ys = workflow.method_by (row_of n operator_rows) p y ys

  value_has_none : (bags : Bags) (v : Plain) (y : meaning.Thing) (ys : List Arg) (a : Around) (s : State) → ThingStands bags (known v) y → method y ys a s ≡ Err (BadOption q)
  value_has_none bags v (a_value w) ys a s h = refl
  value_has_none bags v (a_channel c) ys a s h = absurd h
  value_has_none bags v (outputs os) ys a s h = absurd h

  channel_has : (bags : Bags) (x : Port) (y : meaning.Thing) (ys : List Arg) (a : Around) (s : State) → ThingStands bags (read x) y → method y ys a s ≡ operator y ys a s
  channel_has bags x (a_channel c) ys a s h = refl
  channel_has bags x (a_value w) ys a s h = absurd h
  channel_has bags x (outputs os) ys a s h = absurd h

  results_have : (bags : Bags) (xs : List PortOutput) (y : meaning.Thing) (ys : List Arg) (a : Around) (s : State) → ThingStands bags (results xs) y → method y ys a s ≡ operator y ys a s
  results_have bags xs (outputs os) ys a s h = refl
  results_have bags xs (a_value w) ys a s h = absurd h
  results_have bags xs (a_channel c) ys a s h = absurd h

  module _ (K : Known) (x : Args) (t : Thing) (old new : Lowering) (r : Result Thing LowerFault) (keeps : IsLowering old) where
    abbrev In : Thing → Ins (meaning.Thing × List Arg)
    In u pt z j = ThingStands (bags_of pt.run z.plan) (thing_of u) j.0 × AreArgs (bags_of pt.run z.plan) x j.1

    abbrev walk : meaning.Thing × List Arg → Walk meaning.Thing
    walk j = method j.0 j.1

    abbrev IsMethod : Thing → Type 0
    IsMethod u = Walked K (of_call u x a_thing (λ y ys. workflow.method_of q p n ys y)) old new r

    pub method_of_port : (w : Port) → t ≡ thing.Channel w → Walked K (of_call (thing.Channel w) x a_thing operator) old new r → IsMethod t
    method_of_port w is h =
        subst IsMethod (sym is)
        (ends K (In (thing.Channel w)) walk (In (thing.Channel w)) walk old old (of_call (thing.Channel w) x a_thing operator) new r (begins K (In (thing.Channel w)) walk old keeps) h
        (λ pt j here k. record { first = j; stands = k; same = channel_has (bags_of pt.run old.plan) w j.0 j.1 pt.around pt.state k.0 }))

    pub method_of_results : (os : Vec CallOutput) → t ≡ thing.Outputs os → Walked K (of_call (thing.Outputs os) x a_thing operator) old new r → IsMethod t
    method_of_results os is h =
        subst IsMethod (sym is)
        (ends K (In (thing.Outputs os)) walk (In (thing.Outputs os)) walk old old (of_call (thing.Outputs os) x a_thing operator) new r (begins K (In (thing.Outputs os)) walk old keeps) h
        (λ pt j here k. record { first = j; stands = k; same = results_have (bags_of pt.run old.plan) (map output_of os.items) j.0 j.1 pt.around pt.state k.0 }))

  module _ (K : Known) (x : Args) (t : Thing) (old : Lowering) (r : Result Thing LowerFault) (keeps : IsLowering old) where
    pub method_of_value : (v : Value) → t ≡ thing.Known v → r ≡ Err (BadOption q) → Walked K (of_call t x a_thing (λ y ys. workflow.method_of q p n ys y)) old old r
    method_of_value v is fault =
        let P : Thing → Type 0 = λ u. Walked K (of_call u x a_thing (λ y ys. workflow.method_of q p n ys y)) old old r in
        let R : Result Thing LowerFault → Type 0 = λ w. Walked K (of_call (thing.Known v) x a_thing (λ y ys. workflow.method_of q p n ys y)) old old w in
        let In = λ (pt : Point) (z : Lowering) (j : meaning.Thing × List Arg). ThingStands (bags_of pt.run z.plan) (known (plain_of v)) j.0 × AreArgs (bags_of pt.run z.plan) x j.1 in
        let walk = λ (j : meaning.Thing × List Arg). method j.0 j.1 in
        subst P (sym is) (subst R (sym fault)
        (is_refused K In walk In walk old old a_thing (BadOption q) (begins K In walk old keeps)
        (λ pt j here k. value_has_none (bags_of pt.run old.plan) (plain_of v) j.0 j.1 pt.around pt.state k.0)))

    pub unknown_method : row_of n operator_rows ≡ None → Walked K (of_call t x a_thing operator) old old (Err (UnknownName p))
    unknown_method none =
        let In = λ (pt : Point) (z : Lowering) (j : meaning.Thing × List Arg). ThingStands (bags_of pt.run z.plan) (thing_of t) j.0 × AreArgs (bags_of pt.run z.plan) x j.1 in
        let walk = λ (j : meaning.Thing × List Arg). operator j.0 j.1 in
        is_refused K In walk In walk old old a_thing (UnknownName p) (begins K In walk old keeps)
        (λ pt j here k. ap (λ o. workflow.method_by o p j.0 j.1 pt.around pt.state) none)
