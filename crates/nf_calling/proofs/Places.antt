-- Outputs of calls, by their names and places.
use Rattle.std.proofs.Common.{◌≡◌, ◌∙◌, List, [], ◌∷◌, map, Result, Ok, Err, refl, sym, ap, subst, inl, inr, IfOk}
use Rattle.std.specs.Global.{Vec}
use Rattle.nf_ast.specs.Tree.{Tree}
use Rattle.nf_value.specs.Plain.{Plain}
use Rattle.nf_value.specs.View.{plain_of}
use Rattle.nf_value.specs.declared.place.Place.{Place}
use Rattle.nf_value.specs.declared.value.Value.{Value}
use Rattle.nf_graph.specs.declared.port.Port.{Port}
use Rattle.nf_graph.specs.Meaning.{Bags}
use Rattle.nf_meaning.specs.declared.fault.LowerFault.{LowerFault}
use Rattle.nf_meaning.specs.declared.fault.LowerFault.TheVariants.{BadOption}
use Rattle.nf_meaning.specs.Expressions.{value_of}
use Rattle.nf_meaning.specs.Places.{begins_at}
use Rattle.nf_meaning.specs.Stands.{OutputsStand, PortOutput, PortThing, ThingStands, known, read, results}
use Rattle.nf_meaning.specs.Things as meaning
use Rattle.nf_meaning.specs.Things.{Output, a_channel, a_value as the_value, channels_of, outputs}
use Rattle.nf_meaning.specs.Walk.{State, Walk, then_by, Around}
use Rattle.nf_meaning.specs.Workflow as workflow
use Rattle.nf_lowered.specs.Given.{Gives}
use Rattle.nf_scopes.specs.declared.things.CallOutput.{CallOutput}
use Rattle.nf_scopes.specs.declared.things.Thing.{Thing}
use Rattle.nf_scopes.specs.declared.things.Thing.TheVariants as thing
use Rattle.nf_scopes.specs.Things.{output_of, thing_of}
use Rattle.nf_plan.specs.declared.builder.PlanBuilder.{PlanBuilder}
use Rattle.nf_plan.specs.Runs.{bags_of}
use Rattle.nf_follows.specs.Things.{OutputsRead, PortReads, ThingReads}
use Rattle.nf_lowering.specs.declared.state.Lowering.{Lowering}
use Rattle.nf_lowering.specs.State.{IsLowering}
use Rattle.nf_leading.specs.Wanted.{HasPort, IsOutputAt, IsPortOf, outputs_in}
use Rattle.nf_walked.specs.Forms.{a_thing, a_value}
use Rattle.nf_walked.specs.Members.{indexed}
use Rattle.nf_walked.specs.Steps.{Due, Known, Point, Walked, due, from}
use Rattle.nf_walked.proofs.Leads.{Ins, begins, ends, fails, goes_further, is_refused}
use Rattle.nf_walked.proofs.Stills.{still_in}

-- ---- an output of what reads the plan reads it

port_read : (b : PlanBuilder) (os : List PortOutput) (p : Port) → HasPort os p → OutputsRead b os → PortReads b p
port_read b [] p h r = absurd h
port_read b (o ∷ os) p (inl e) r = subst (λ (q : Port). PortReads b q) e r.0
port_read b (o ∷ os) p (inr h) r = port_read b os p h r.1

port_of_read : (b : PlanBuilder) (os : List PortOutput) (t : PortThing) → IsPortOf os t → OutputsRead b os → ThingReads b t
port_of_read b os (read p) h r = port_read b os p h r
port_of_read b os (known v) h r = absurd h
port_of_read b os (results qs) h r = absurd h

outputs_read : (b : PlanBuilder) (t : PortThing) → ThingReads b t → OutputsRead b (outputs_in t)
outputs_read b (read p) r = tt
outputs_read b (known v) r = tt
outputs_read b (results os) r = r

pub port_reads : (b : PlanBuilder) (os : List PortOutput) (r : Result Thing LowerFault) → IfOk r (λ u. IsPortOf os (thing_of u)) → OutputsRead b os → IfOk r (λ u. ThingReads b (thing_of u))
port_reads b os (Ok u) h reads = port_of_read b os (thing_of u) h reads
port_reads b os (Err e) h reads = tt

pub member_reads : (b : PlanBuilder) (t : Thing) (r : Result Thing LowerFault) → IfOk r (λ u. IsPortOf (outputs_in (thing_of t)) (thing_of u)) → ThingReads b (thing_of t)
    → IfOk r (λ u. ThingReads b (thing_of u))
member_reads b t r h reads = port_reads b (outputs_in (thing_of t)) r h (outputs_read b (thing_of t) reads)

-- ---- `e[i]` of what a call gives

as_outputs : (bags : Bags) (os : List PortOutput) (y : meaning.Thing) → ThingStands bags (results os) y → (qs : List Output) × (y ≡ outputs qs) × OutputsStand bags os qs
as_outputs bags os (outputs qs) h = (qs, refl, h)
as_outputs bags os (the_value w) h = absurd h
as_outputs bags os (a_channel c) h = absurd h

module _ (K : Known) (q p : Place) (i : Tree) (old : Lowering) (keeps : IsLowering old) (t : Thing) (os : Vec CallOutput) (is : t ≡ thing.Outputs os) where
  abbrev Of : Ins meaning.Thing
  Of pt z y = ThingStands (bags_of pt.run z.plan) (thing_of (thing.Outputs os)) y

  abbrev index : meaning.Thing → Walk meaning.Thing
  index = indexed q p i

  abbrev at_last : List Output → Plain → Walk meaning.Thing
  at_last qs v = workflow.output_at p (begins_at i) v (channels_of qs)

  abbrev IsIndexed : Lowering → Result Thing LowerFault → Type 0
  IsIndexed new r = Walked K (from a_thing t a_thing (indexed q p i)) old new r

  here : (r : Result Thing LowerFault) → Walked K (from a_thing (thing.Outputs os) a_thing index) old old r → IsIndexed old r
  here r h = let P : Thing → Type 0 = λ u. Walked K (from a_thing u a_thing index) old old r in subst P (sym is) h

  pub index_fails : (e : LowerFault) → Walked K (due a_value (value_of i)) old old (Err e) → IsIndexed old (Err e)
  index_fails e step =
      here (Err e)
      (fails K Of index Of index old old (due a_value (value_of i)) a_thing old e (begins K Of index old keeps) step
      (λ pt y stands k.
      (let it = as_outputs (bags_of pt.run old.plan) (map output_of os.items) y k in
      record { first = tt; stands = tt; rest = λ v. at_last it.0 v; same = ap (λ z. index z pt.around pt.state) it.1 })))

  pub index_given : (at : Value) (place : Place) (r : Result Thing LowerFault) → place ≡ begins_at i → Walked K (due a_value (value_of i)) old old (Ok at) → IsOutputAt p place (plain_of at) os.items r
      → IfOk r (λ u. IsPortOf (map output_of os.items) (thing_of u)) → OutputsRead old.plan (map output_of os.items) → IsIndexed old r
  index_given at place r there step answer port reads =
      let U = λ (pt : Point) (z : Lowering) (j : List Output × Plain). OutputsStand (bags_of pt.run z.plan) (map output_of os.items) j.0 × (plain_of at ≡ j.1) in
      let last : Due (List Output × Plain) Thing meaning.Thing = record { In = U; walk = λ j. at_last j.0 j.1; form = a_thing } in
      here r
      (ends K Of index U (λ j. at_last j.0 j.1) old old last old r
      (goes_further K Of index Of index old old (due a_value (value_of i)) U (λ j. at_last j.0 j.1) old at (begins K Of index old keeps) step
      (λ pt y stands k.
      (let it = as_outputs (bags_of pt.run old.plan) (map output_of os.items) y k in
      record {
        first = tt;
        stands = tt;
        goes = λ v s here_then out came. (
          (it.0, v),
          (it.2, out),
          ap (λ z. index z pt.around pt.state) it.1 ∙ ap (then_by pt.around (λ w. at_last it.0 w)) came,
        );
      })))
      (still_in K last old r keeps (port_reads old.plan (map output_of os.items) r port reads)
      (λ pt j stands k.
      subst (λ (w : Plain). Gives (λ x v. a_thing.Stands pt.run old.plan x v.0 × (v.1 ≡ pt.state)) (at_last j.0 w pt.around pt.state) r) k.1
      (subst (λ (z : Place). Gives (λ x v. a_thing.Stands pt.run old.plan x v.0 × (v.1 ≡ pt.state)) (workflow.output_at p z (plain_of at) (channels_of j.0) pt.around pt.state) r) there
      (answer (bags_of pt.run old.plan) j.0 k.0 pt.around pt.state))))
      (λ pt j stands k. record { first = j; stands = k; same = refl }))

-- ---- `e[i]` of what is no call

module _ (K : Known) (q p : Place) (i : Tree) (old : Lowering) (keeps : IsLowering old) where
  abbrev indexing : meaning.Thing → Walk meaning.Thing
  indexing = indexed q p i

  abbrev Standing : Thing → Ins meaning.Thing
  Standing t pt z y = ThingStands (bags_of pt.run z.plan) (thing_of t) y

  value_has_no_outputs : (bags : Bags) (v : Plain) (y : meaning.Thing) (a : Around) (s : State) → ThingStands bags (known v) y → indexing y a s ≡ Err (BadOption q)
  value_has_no_outputs bags v (the_value w) a s h = refl
  value_has_no_outputs bags v (a_channel c) a s h = absurd h
  value_has_no_outputs bags v (outputs os) a s h = absurd h

  channel_has_no_outputs : (bags : Bags) (x : Port) (y : meaning.Thing) (a : Around) (s : State) → ThingStands bags (read x) y → indexing y a s ≡ Err (BadOption p)
  channel_has_no_outputs bags x (a_channel c) a s h = refl
  channel_has_no_outputs bags x (the_value w) a s h = absurd h
  channel_has_no_outputs bags x (outputs os) a s h = absurd h

  pub index_of_value : (t : Thing) (v : Value) (r : Result Thing LowerFault) → t ≡ thing.Known v → r ≡ Err (BadOption q) → Walked K (from a_thing t a_thing indexing) old old r
  index_of_value t v r is fault =
      let P : Thing → Type 0 = λ u. Walked K (from a_thing u a_thing indexing) old old r in
      let R : Result Thing LowerFault → Type 0 = λ w. Walked K (from a_thing (thing.Known v) a_thing indexing) old old w in
      subst P (sym is) (subst R (sym fault)
      (is_refused K (Standing (thing.Known v)) indexing (Standing (thing.Known v)) indexing old old a_thing (BadOption q) (begins K (Standing (thing.Known v)) indexing old keeps)
      (λ pt y here k. value_has_no_outputs (bags_of pt.run old.plan) (plain_of v) y pt.around pt.state k)))

  pub index_of_channel : (t : Thing) (w : Port) (r : Result Thing LowerFault) → t ≡ thing.Channel w → r ≡ Err (BadOption p) → Walked K (from a_thing t a_thing indexing) old old r
  index_of_channel t w r is fault =
      let P : Thing → Type 0 = λ u. Walked K (from a_thing u a_thing indexing) old old r in
      let R : Result Thing LowerFault → Type 0 = λ v. Walked K (from a_thing (thing.Channel w) a_thing indexing) old old v in
      subst P (sym is) (subst R (sym fault)
      (is_refused K (Standing (thing.Channel w)) indexing (Standing (thing.Channel w)) indexing old old a_thing (BadOption p) (begins K (Standing (thing.Channel w)) indexing old keeps)
      (λ pt y here k. channel_has_no_outputs (bags_of pt.run old.plan) w y pt.around pt.state k)))
