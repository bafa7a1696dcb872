-- Names that are read: what binds them, and what is wrong with what they stand for.
use Rattle.std.proofs.Common.{◌≡◌, ◌∙◌, ℕ, Bool, true, false, List, Option, Some, None, refl, sym, ap, subst}
use Rattle.std.specs.Global.{Vec}
use Rattle.nf_value.specs.declared.place.Place.{Place}
use Rattle.nf_value.specs.declared.value.Value.{Value}
use Rattle.nf_value.specs.View.{plain_of}
use Rattle.nf_builtins.specs.Natives.{is_among}
use Rattle.nf_graph.specs.Meaning.{Bags}
use Rattle.nf_graph.specs.declared.port.Port.{Port}
use Rattle.nf_meaning.specs.declared.fault.LowerFault.{LowerFault}
use Rattle.nf_meaning.specs.Functions.{no_names_known}
use Rattle.nf_meaning.specs.Names.{Known, Reading, bound_fault, unbound_fault, channel_fault, value_fault, thing_fault}
use Rattle.nf_meaning.specs.Things as meaning
use Rattle.nf_meaning.specs.Things.{a_value, a_channel, outputs, thing_named}
use Rattle.nf_meaning.specs.Stands.{ThingStands}
use Rattle.nf_meaning.specs.Walk.{things_in}
use Rattle.nf_scopes.specs.declared.names.BodyNames.{BodyNames}
use Rattle.nf_scopes.specs.declared.things.CallOutput.{CallOutput}
use Rattle.nf_scopes.specs.declared.things.Thing.{Thing}
use Rattle.nf_scopes.specs.declared.things.Thing.TheVariants as thing
use Rattle.nf_scopes.specs.Tables.{FoundStands}
use Rattle.nf_scopes.specs.Things.{thing_of}
use Rattle.nf_known.specs.declared.around.Bound.{Bound}
use Rattle.nf_known.specs.declared.around.Bound.TheVariants as bound
use Rattle.nf_known.specs.Around.{everywhere_names, names_everywhere, KnowsBody, IsBoundAs, bound_if}

module _ (r : Reading) (p : Place) (n : List ℕ) where
  -- ---- around a function there is no name

  pub nothing_binds : (k : Known) → k ≡ no_names_known → IsBoundAs r p n k bound.Free
  nothing_binds k e leads = ap (λ z. bound_fault (thing_named n z.things) (is_among n z.everywhere) leads r p) e

  -- ---- a name that no body binds

  by_word : (k : Known) → thing_named n k.things ≡ None → (t : Bool) → is_among n k.everywhere ≡ t → IsBoundAs r p n k (bound_if t)
  by_word k none true e = λ leads. ap (λ o. bound_fault o (is_among n k.everywhere) leads r p) none ∙ ap (λ b. unbound_fault b leads r p) e
  by_word k none false e = λ leads. ap (λ o. bound_fault o (is_among n k.everywhere) leads r p) none ∙ ap (λ b. unbound_fault b leads r p) e

  pub everywhere_binds : (k : Known) → k ≡ names_everywhere → (b : Bound) → b ≡ bound_if (is_among n everywhere_names) → IsBoundAs r p n k b
  everywhere_binds k e b is =
      subst (IsBoundAs r p n k) (sym is)
      (by_word k (ap (λ z. thing_named n z.things) e) (is_among n everywhere_names) (ap (λ z. is_among n z.everywhere) e))

  nothing_stands : (bags : Bags) (o : Option meaning.Thing) → FoundStands bags None o → o ≡ None
  nothing_stands bags None h = refl
  nothing_stands bags (Some t) h = absurd h

  pub body_leaves : (x : BodyNames) (k : Known) (h : KnowsBody x k) → FoundStands h.bags None (thing_named n (things_in h.scope)) → (b : Bound) → b ≡ bound_if (is_among n everywhere_names) → IsBoundAs r p n k b
  body_leaves x k h found b is =
      subst (IsBoundAs r p n k) (sym is)
      (by_word k (ap (thing_named n) h.things ∙ nothing_stands h.bags (thing_named n (things_in h.scope)) found) (is_among n everywhere_names) (ap (is_among n) h.everywhere))

  -- ---- a name that the body binds

  by_thing : (bags : Bags) (t : Thing) (f : Option LowerFault) → ((u : meaning.Thing) → ThingStands bags (thing_of t) u → f ≡ thing_fault r p u) → (o : Option meaning.Thing) → FoundStands bags (Some t) o
      → (everywhere leads : Bool) → bound_fault o everywhere leads r p ≡ f
  by_thing bags t f judged None h everywhere leads = absurd h
  by_thing bags t f judged (Some u) h everywhere leads = sym (judged u h)

  pub body_binds : (x : BodyNames) (k : Known) (h : KnowsBody x k) (t : Thing) → FoundStands h.bags (Some t) (thing_named n (things_in h.scope)) → (f : Option LowerFault)
      → ((u : meaning.Thing) → ThingStands h.bags (thing_of t) u → f ≡ thing_fault r p u) → IsBoundAs r p n k (bound.Here f)
  body_binds x k h t found f judged leads =
      ap (λ ts. bound_fault (thing_named n ts) (is_among n k.everywhere) leads r p) h.things
      ∙ by_thing h.bags t f judged (thing_named n (things_in h.scope)) found (is_among n k.everywhere) leads

-- ---- what a name stands for

module _ (r : Reading) (p : Place) (bags : Bags) where
  known_by : (v : Value) (f : Option LowerFault) → f ≡ value_fault r p (plain_of v) → (u : meaning.Thing) → ThingStands bags (thing_of (thing.Known v)) u → f ≡ thing_fault r p u
  known_by v f e (a_value w) h = e ∙ ap (value_fault r p) h
  known_by v f e (a_channel c) h = absurd h
  known_by v f e (outputs os) h = absurd h

  pub known_stands : (t : Thing) (v : Value) → t ≡ thing.Known v → (f : Option LowerFault) → f ≡ value_fault r p (plain_of v) → (u : meaning.Thing) → ThingStands bags (thing_of t) u → f ≡ thing_fault r p u
  known_stands t v is f e u h = known_by v f e u (subst (λ z. ThingStands bags (thing_of z) u) is h)

  -- a channel, and the outputs of a call

  abbrev leads_to_channel : Thing → Type 0
  leads_to_channel t = (u : meaning.Thing) → ThingStands bags (thing_of t) u → channel_fault r p ≡ thing_fault r p u

  channel_by : (c : Port) → leads_to_channel (thing.Channel c)
  channel_by c (a_value w) h = absurd h
  channel_by c (a_channel b) h = refl
  channel_by c (outputs os) h = absurd h

  pub channel_stands : (t : Thing) (c : Port) → t ≡ thing.Channel c → (f : Option LowerFault) → f ≡ channel_fault r p → (u : meaning.Thing) → ThingStands bags (thing_of t) u → f ≡ thing_fault r p u
  channel_stands t c is f e u h = e ∙ channel_by c u (subst (λ z. ThingStands bags (thing_of z) u) is h)

  outputs_by : (os : Vec CallOutput) → leads_to_channel (thing.Outputs os)
  outputs_by os (a_value w) h = absurd h
  outputs_by os (a_channel b) h = absurd h
  outputs_by os (outputs qs) h = refl

  pub outputs_stand : (t : Thing) (os : Vec CallOutput) → t ≡ thing.Outputs os → (f : Option LowerFault) → f ≡ channel_fault r p → (u : meaning.Thing) → ThingStands bags (thing_of t) u → f ≡ thing_fault r p u
  outputs_stand t os is f e u h = e ∙ outputs_by os u (subst (λ z. ThingStands bags (thing_of z) u) is h)
