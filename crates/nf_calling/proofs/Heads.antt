-- What stands at the head of a pipe.
use Rattle.std.proofs.Common.{◌≡◌, ◌∙◌, ℕ, Bool, false, List, Ok, Err, Option, Some, None, map, refl, sym, ap, subst}
use Rattle.std.specs.Global.{Vec}
use Rattle.nf_value.specs.Plain.{Plain}
use Rattle.nf_value.specs.View.{plain_of}
use Rattle.nf_value.specs.declared.place.Place.{Place}
use Rattle.nf_value.specs.declared.value.Value.{Value}
use Rattle.nf_graph.specs.declared.port.Port.{Port}
use Rattle.nf_graph.specs.Meaning.{Bags}
use Rattle.nf_meaning.specs.declared.fault.LowerFault.{LowerFault}
use Rattle.nf_meaning.specs.Expressions.{channel_wanted}
use Rattle.nf_meaning.specs.Names.{Called, called_by}
use Rattle.nf_meaning.specs.Things as meaning
use Rattle.nf_meaning.specs.Things.{Channel, a_channel, a_value, outputs, thing_named}
use Rattle.nf_meaning.specs.Walk.{Around, State, ◌>>=◌, gives, then_by, things_in}
use Rattle.nf_meaning.specs.Workflow.{flowing}
use Rattle.nf_meaning.specs.Stands.{PortOutput, StandsFor, ThingStands, known, read, results}
use Rattle.nf_scopes.specs.declared.things.CallOutput.{CallOutput}
use Rattle.nf_scopes.specs.declared.things.Thing.{Thing}
use Rattle.nf_scopes.specs.declared.things.Thing.TheVariants as thing
use Rattle.nf_scopes.specs.Things.{output_of, thing_of}
use Rattle.nf_plan.specs.Runs.{bags_of}
use Rattle.nf_follows.specs.Things.{ThingReads}
use Rattle.nf_lowering.specs.declared.state.Lowering.{Lowering}
use Rattle.nf_lowering.specs.State.{IsLowering}
use Rattle.nf_walked.specs.Forms.{a_port, a_thing}
use Rattle.nf_walked.specs.Parts.{is_call, is_called_alone, of_thing, unless_bound}
use Rattle.nf_walked.specs.Steps.{Here, Known, Point, StandsAt, Walked, from}
use Rattle.nf_walked.proofs.Leads.{Ins, begins, fails, goes_further, is_given}
use Rattle.nf_meaning.specs.Given.{Definitions}
use Rattle.nf_tasks.specs.Memory.{Program}
use Rattle.nf_callees.specs.Found.{defined_in}
use Rattle.nf_walked.specs.declared.walker.Walker.{Walker}
use Rattle.nf_walked.specs.Around.{Knows}
use Rattle.nf_walked.proofs.Names.{IsFound, found_none, found_some}

-- ---- what flows

-- a value becomes a channel
module _ (K : Known) (q : Place) (t : Thing) (old : Lowering) (keeps : IsLowering old) where
  abbrev Flows : Thing → Ins meaning.Thing
  Flows u p z y = ThingStands (bags_of p.run z.plan) (thing_of u) y

  value_flows : (bags : Bags) (v : Plain) (y : meaning.Thing) (a : Around) (s : State) → ThingStands bags (known v) y → flowing q y a s ≡ (channel_wanted q y >>= λ c. gives (a_channel c)) a s
  value_flows bags v (a_value w) a s h = refl
  value_flows bags v (a_channel c) a s h = absurd h
  value_flows bags v (outputs os) a s h = absurd h

  pub flow_fails : (v : Value) (new : Lowering) (e : LowerFault) → t ≡ thing.Known v → Walked K (from a_thing (thing.Known v) a_port (channel_wanted q)) old new (Err e)
      → Walked K (of_thing t a_thing (flowing q)) old new (Err e)
  flow_fails v new e is h =
      let P : Thing → Type 0 = λ u. Walked K (of_thing u a_thing (flowing q)) old new (Err e) in
      subst P (sym is)
      (fails K (Flows (thing.Known v)) (flowing q) (Flows (thing.Known v)) (flowing q) old old (from a_thing (thing.Known v) a_port (channel_wanted q)) a_thing new e (begins K (Flows (thing.Known v)) (flowing q) old keeps) h
      (λ p y here k. record { first = y; stands = k; rest = λ c. gives (a_channel c); same = value_flows (bags_of p.run old.plan) (plain_of v) y p.around p.state k }))

  pub flow_made : (v : Value) (new : Lowering) (port : Port) → t ≡ thing.Known v → Walked K (from a_thing (thing.Known v) a_port (channel_wanted q)) old new (Ok port)
      → Walked K (of_thing t a_thing (flowing q)) old new (Ok (thing.Channel port))
  flow_made v new port is h =
      let P : Thing → Type 0 = λ u. Walked K (of_thing u a_thing (flowing q)) old new (Ok (thing.Channel port)) in
      let U = λ (p : Point) (z : Lowering) (c : Channel). StandsFor (bags_of p.run z.plan) port c in
      subst P (sym is)
      (is_given K (Flows (thing.Known v)) (flowing q) U (λ c. gives (a_channel c)) old new a_thing (thing.Channel port) h.fits
      (goes_further K (Flows (thing.Known v)) (flowing q) (Flows (thing.Known v)) (flowing q) old old (from a_thing (thing.Known v) a_port (channel_wanted q)) U (λ c. gives (a_channel c)) new port
      (begins K (Flows (thing.Known v)) (flowing q) old keeps) h
      (λ p y here k.
      record {
        first = y;
        stands = k;
        goes = λ c s there out came. (c, out, value_flows (bags_of p.run old.plan) (plain_of v) y p.around p.state k ∙ ap (then_by p.around (λ d. gives (a_channel d))) came);
      }))
      (λ p c here k. (a_channel c, k, refl)))

  -- what is no value flows as it is
  port_flows : (bags : Bags) (x : Port) (y : meaning.Thing) (a : Around) (s : State) → ThingStands bags (read x) y → flowing q y a s ≡ Ok (y, s)
  port_flows bags x (a_channel c) a s h = refl
  port_flows bags x (a_value w) a s h = absurd h
  port_flows bags x (outputs os) a s h = absurd h

  results_flow : (bags : Bags) (os : List PortOutput) (y : meaning.Thing) (a : Around) (s : State) → ThingStands bags (results os) y → flowing q y a s ≡ Ok (y, s)
  results_flow bags os (outputs qs) a s h = refl
  results_flow bags os (a_value w) a s h = absurd h
  results_flow bags os (a_channel c) a s h = absurd h

  pub port_given : (x : Port) → t ≡ thing.Channel x → ThingReads old.plan (thing_of t) → Walked K (of_thing t a_thing (flowing q)) old old (Ok (thing.Channel x))
  port_given x is reads =
      let P : Thing → Type 0 = λ u. Walked K (of_thing u a_thing (flowing q)) old old (Ok (thing.Channel x)) in
      let R : Thing → Type 0 = λ u. ThingReads old.plan (thing_of u) in
      subst P (sym is)
      (is_given K (Flows (thing.Channel x)) (flowing q) (Flows (thing.Channel x)) (flowing q) old old a_thing (thing.Channel x) (subst R is reads) (begins K (Flows (thing.Channel x)) (flowing q) old keeps)
      (λ p y here k. (y, k, port_flows (bags_of p.run old.plan) x y p.around p.state k)))

  pub results_given : (os : Vec CallOutput) → t ≡ thing.Outputs os → ThingReads old.plan (thing_of t) → Walked K (of_thing t a_thing (flowing q)) old old (Ok (thing.Outputs os))
  results_given os is reads =
      let P : Thing → Type 0 = λ u. Walked K (of_thing u a_thing (flowing q)) old old (Ok (thing.Outputs os)) in
      let R : Thing → Type 0 = λ u. ThingReads old.plan (thing_of u) in
      subst P (sym is)
      (is_given K (Flows (thing.Outputs os)) (flowing q) (Flows (thing.Outputs os)) (flowing q) old old a_thing (thing.Outputs os) (subst R is reads) (begins K (Flows (thing.Outputs os)) (flowing q) old keeps)
      (λ p y here k. (y, k, results_flow (bags_of p.run old.plan) (map output_of os.items) y p.around p.state k)))

-- ---- whether a name is called where it stands alone

module _ (K : Known) (z : Lowering) (n : List ℕ) where
  pub alone_bound : (t : Thing) → IsFound K z n (Some t) → Here K z (λ p. false ≡ is_called_alone p n)
  alone_bound t found p stands =
      let it = found_some (bags_of p.run z.plan) t (thing_named n (things_in p.state.scope)) (found p stands) in
      sym (ap (λ o. unless_bound o (is_call (called_by p.around.definitions p.around.given.program.titles n))) it.1)

  pub alone_free : (b : Bool) (c : Called) → b ≡ is_call c → IsFound K z n None → ((p : Point) → StandsAt K p z → called_by p.around.definitions p.around.given.program.titles n ≡ c)
      → Here K z (λ p. b ≡ is_called_alone p n)
  alone_free b c is found called p stands =
      let none = found_none (bags_of p.run z.plan) (thing_named n (things_in p.state.scope)) (found p stands) in
      is ∙ sym (ap is_call (called p stands)) ∙ sym (ap (λ o. unless_bound o (is_call (called_by p.around.definitions p.around.given.program.titles n))) none)

-- ---- what a name is where it is called, at every point

module _ {N : Type 0} (titles_of : N → List (List ℕ)) (answer_of : N → ℕ → List Plain → Option Plain) (x : Walker N) (n : List ℕ) (c : Called)
    (is : c ≡ called_by (defined_in x.definitions.now) (titles_of x.around.now.natives.now) n) where
  abbrev K : Known
  K = Knows titles_of answer_of x

  pub called_at : (z : Lowering) (p : Point) → StandsAt K p z → called_by p.around.definitions p.around.given.program.titles n ≡ c
  called_at z p stands =
      ap (λ (d : Definitions). called_by d p.around.given.program.titles n) stands.around.definitions
      ∙ ap (λ (m : Program). called_by (defined_in x.definitions.now) m.titles n) stands.around.around.everywhere.program ∙ sym is
