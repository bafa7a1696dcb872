-- Outputs of calls, by their names and places.
use Rattle.std.proofs.Common.{◌≡◌, ◌∙◌, ◌+◌, ◌<◌, ◌≤◌, ℕ, ℤ, pos, negsuc, zero, suc, Bool, true, false, List, [], ◌∷◌, length, get_or, drop, Result, Ok, Err, inl, inr, refl, sym, ap, subst}
use Rattle.std.specs.Prelude.{Option, Some, None, map, option_map, slice_get, if◌then◌else◌}
use Rattle.std.specs.Global.{Vec}
use Rattle.std.proofs.lemmas.List.{drop_all}
use Rattle.nf_value.specs.Plain as plain
use Rattle.nf_value.specs.Plain.{Plain}
use Rattle.nf_value.specs.declared.place.Place.{Place}
use Rattle.nf_value.specs.declared.value.Value.{Value}
use Rattle.nf_graph.specs.declared.port.Port.{Port}
use Rattle.nf_graph.specs.Meaning.{Bags}
use Rattle.nf_meaning.specs.declared.fault.LowerFault.{LowerFault}
use Rattle.nf_meaning.specs.declared.fault.LowerFault.TheVariants.{BadOption, UnknownName}
use Rattle.nf_meaning.specs.Stands.{OutputsStand, PortOutput, StandsFor}
use Rattle.nf_meaning.specs.Things as meaning
use Rattle.nf_meaning.specs.Things.{a_channel, channels_of, has_label, output_named}
use Rattle.nf_meaning.specs.Walk.{◌>>=◌, gives, wanted}
use Rattle.nf_meaning.specs.Workflow as workflow
use Rattle.nf_scopes.specs.declared.things.CallOutput.{CallOutput}
use Rattle.nf_scopes.specs.declared.things.Thing.{Thing}
use Rattle.nf_scopes.specs.declared.things.Thing.TheVariants as thing
use Rattle.nf_scopes.specs.Things.{output_of, thing_of}
use Rattle.nf_leading.specs.Stays.{Stays}
use Rattle.nf_leading.specs.Wanted.{HasPort, IsMember, IsOutputAt, IsPortOf, IsThing, outputs_in, port_at, port_named}
use Rattle.nf_leading.proofs.Lists.{left}
use Rattle.nf_leading.proofs.Things.{for_the, of_known, of_port, of_results}

-- ---- a port for a channel, or neither

abbrev pub FoundPort : Bags → Option Port → Option meaning.Channel → Type 0
FoundPort bags None None = Unit {0}
FoundPort bags (Some p) (Some c) = StandsFor bags p c
FoundPort bags None (Some c) = ⊥
FoundPort bags (Some p) None = ⊥

one_or_more : (bags : Bags) (b : Bool) (p : Port) (c : meaning.Channel) (o : Option Port) (q : Option meaning.Channel) → StandsFor bags p c → FoundPort bags o q
    → FoundPort bags (if b then Some p else o) (if b then Some c else q)
one_or_more bags true p c o q h k = h
one_or_more bags false p c o q h k = k

named_alike : (bags : Bags) (n : List ℕ) (os : List PortOutput) (qs : List meaning.Output) → OutputsStand bags os qs → FoundPort bags (port_named n os) (output_named n qs)
named_alike bags n [] [] h = tt
named_alike bags n [] (q ∷ qs) h = absurd h
named_alike bags n (o ∷ os) [] h = absurd h
named_alike bags n (o ∷ os) (q ∷ qs) h =
    let P : Option (List ℕ) → Type 0 = λ l. FoundPort bags (port_named n (o ∷ os)) (if has_label n l then Some q.channel else output_named n qs) in
    subst P h.0.label (one_or_more bags (has_label n o.label) o.port q.channel (port_named n os) (output_named n qs) h.0.channel (named_alike bags n os qs h.1))

placed_alike : (bags : Bags) (k : ℕ) (os : List PortOutput) (qs : List meaning.Output) → OutputsStand bags os qs → FoundPort bags (option_map (λ o. o.port) (slice_get os k)) (slice_get (channels_of qs) k)
placed_alike bags k [] [] h = tt
placed_alike bags k [] (q ∷ qs) h = absurd h
placed_alike bags k (o ∷ os) [] h = absurd h
placed_alike bags zero (o ∷ os) (q ∷ qs) h = h.0.channel
placed_alike bags (suc k) (o ∷ os) (q ∷ qs) h = placed_alike bags k os qs h.1

-- ---- one of the outputs has it

has_either : (b : Bool) (o : PortOutput) (found : Option Port) (os : List PortOutput) (p : Port) → (found ≡ Some p → HasPort os p) → (if b then Some o.port else found) ≡ Some p → HasPort (o ∷ os) p
has_either true o found os p more h = inl (let same : Some o.port ≡ Some p = h in cc)
has_either false o found os p more h = inr (more h)

pub named_has : (n : List ℕ) (os : List PortOutput) (p : Port) → port_named n os ≡ Some p → HasPort os p
named_has n [] p h = absurd (let e : ◌≡◌ {A = Option Port} None (Some p) = h in cc)
named_has n (o ∷ os) p h = has_either (has_label n o.label) o (port_named n os) os p (named_has n os p) h

pub placed_has : (k : ℕ) (os : List PortOutput) (p : Port) → option_map (λ o. o.port) (slice_get os k) ≡ Some p → HasPort os p
placed_has k [] p h = absurd (let e : ◌≡◌ {A = Option Port} None (Some p) = h in cc)
placed_has zero (o ∷ os) p h = inl (let same : Some o.port ≡ Some p = h in cc)
placed_has (suc k) (o ∷ os) p h = inr (placed_has k os p h)

pub at_has : (z : ℤ) (os : List PortOutput) (p : Port) → port_at z os ≡ Some p → HasPort os p
at_has (pos k) os p h = placed_has k os p h
at_has (negsuc k) os p h = absurd (let e : ◌≡◌ {A = Option Port} None (Some p) = h in cc)

module _ (bags : Bags) (p : Place) where
  abbrev Picks : Option meaning.Channel → Result Thing LowerFault → Type 0
  Picks o r = Stays (IsThing bags) (wanted o (UnknownName p) >>= λ c. gives (a_channel c)) r

  picked : (o : Option meaning.Channel) (q : Port) → FoundPort bags (Some q) o → Picks o (Ok (thing.Channel q))
  picked (Some c) q h a s = record { value = (a_channel c, s); is = refl; fits = (h, refl) }
  picked None q h a s = absurd h

  missed : (o : Option meaning.Channel) → FoundPort bags None o → Picks o (Err (UnknownName p))
  missed None h a s = refl
  missed (Some c) h a s = absurd h

-- ---- by name

module _ (begin p : Place) (n : List ℕ) (t : Thing) where
  module _ (os : Vec CallOutput) (is : t ≡ thing.Outputs os) where
    pub member_found : (q : Port) → port_named n (map output_of os.items) ≡ Some q → IsMember begin p n t (Ok (thing.Channel q))
    member_found q h =
        for_the t (thing.Outputs os) IsThing (workflow.member_of begin p n) (Ok (thing.Channel q)) is
        (of_results os IsThing (workflow.member_of begin p n) (Ok (thing.Channel q))
        (λ bags qs stands.
        (let P : Option Port → Type 0 = λ o. FoundPort bags o (output_named n qs) in
        picked bags p (output_named n qs) q (subst P h (named_alike bags n (map output_of os.items) qs stands)))))

    pub member_missed : port_named n (map output_of os.items) ≡ None → IsMember begin p n t (Err (UnknownName p))
    member_missed h =
        for_the t (thing.Outputs os) IsThing (workflow.member_of begin p n) (Err (UnknownName p)) is
        (of_results os IsThing (workflow.member_of begin p n) (Err (UnknownName p))
        (λ bags qs stands.
        (let P : Option Port → Type 0 = λ o. FoundPort bags o (output_named n qs) in
        missed bags p (output_named n qs) (subst P h (named_alike bags n (map output_of os.items) qs stands)))))

  pub member_of_channel : (q : Port) → t ≡ thing.Channel q → IsMember begin p n t (Err (BadOption p))
  member_of_channel q is =
      for_the t (thing.Channel q) IsThing (workflow.member_of begin p n) (Err (BadOption p)) is
      (of_port q IsThing (workflow.member_of begin p n) (Err (BadOption p)) (λ bags c a s. refl))

  pub member_of_value : (v : Value) → t ≡ thing.Known v → IsMember begin p n t (Err (BadOption begin))
  member_of_value v is =
      for_the t (thing.Known v) IsThing (workflow.member_of begin p n) (Err (BadOption begin)) is
      (of_known v IsThing (workflow.member_of begin p n) (Err (BadOption begin)) (λ bags y h a s. refl))

  pub member_has : (os : Vec CallOutput) (q : Port) → t ≡ thing.Outputs os → port_named n (map output_of os.items) ≡ Some q → IsPortOf (outputs_in (thing_of t)) (thing_of (thing.Channel q))
  member_has os q is h = let P : Thing → Type 0 = λ u. HasPort (outputs_in (thing_of u)) q in subst P (sym is) (named_has n (map output_of os.items) q h)

-- ---- by place

module _ (p q : Place) (os : List CallOutput) where
  number_found : (z : ℤ) (port : Port) → port_at z (map output_of os) ≡ Some port → IsOutputAt p q (plain.int z) os (Ok (thing.Channel port))
  number_found (pos k) port h bags qs stands =
      let P : Option Port → Type 0 = λ o. FoundPort bags o (slice_get (channels_of qs) k) in
      picked bags p (slice_get (channels_of qs) k) port (subst P h (placed_alike bags k (map output_of os) qs stands))
  number_found (negsuc k) port h bags qs stands = absurd (let e : ◌≡◌ {A = Option Port} None (Some port) = h in cc)

  number_missed : (z : ℤ) → port_at z (map output_of os) ≡ None → IsOutputAt p q (plain.int z) os (Err (UnknownName p))
  number_missed (pos k) h bags qs stands =
      let P : Option Port → Type 0 = λ o. FoundPort bags o (slice_get (channels_of qs) k) in
      missed bags p (slice_get (channels_of qs) k) (subst P h (placed_alike bags k (map output_of os) qs stands))
  number_missed (negsuc k) h bags qs stands = λ a s. refl

  -- of a value that is this number
  pub place_found : (v : Plain) (z : ℤ) (port : Port) → v ≡ plain.int z → port_at z (map output_of os) ≡ Some port → IsOutputAt p q v os (Ok (thing.Channel port))
  place_found v z port is h = let P : Plain → Type 0 = λ w. IsOutputAt p q w os (Ok (thing.Channel port)) in subst P (sym is) (number_found z port h)

  pub place_missed : (v : Plain) (z : ℤ) → v ≡ plain.int z → port_at z (map output_of os) ≡ None → IsOutputAt p q v os (Err (UnknownName p))
  place_missed v z is h = let P : Plain → Type 0 = λ w. IsOutputAt p q w os (Err (UnknownName p)) in subst P (sym is) (number_missed z h)

abbrev pub is_number : Plain → Bool
is_number (plain.int z) = true
is_number _ = false

pub no_place : (p q : Place) (os : List CallOutput) (v : Plain) → is_number v ≡ false → IsOutputAt p q v os (Err (BadOption q))
no_place p q os (plain.int z) h = absurd (let e : true ≡ false = h in cc)
no_place p q os plain.null h = λ bags qs stands a s. refl
no_place p q os (plain.truth b) h = λ bags qs stands a s. refl
no_place p q os (plain.text t) h = λ bags qs stands a s. refl
no_place p q os (plain.file n d l) h = λ bags qs stands a s. refl
no_place p q os (plain.list vs) h = λ bags qs stands a s. refl
no_place p q os (plain.table ps) h = λ bags qs stands a s. refl

-- ---- a loop over outputs that looks for a name

module _ (n : List ℕ) (os : List CallOutput) (i : ℕ) where
  abbrev found : List CallOutput → Option Port
  found xs = port_named n (map output_of xs)

  module _ (o : CallOutput) (b : Bool) (lt : i < length os) (is : o ≡ get_or os i o) (h : b ≡ has_label n o.label) where
    pub label_here : b ≡ true → found (drop i os) ≡ found os → Some o.port ≡ found os
    label_here does inv =
        sym (sym inv ∙ ap found (left os i o lt is) ∙ ap (λ c. if c then Some o.port else found (drop (i + 1) os)) (sym h ∙ does))

    pub label_passed : b ≡ false → found (drop i os) ≡ found os → found (drop (i + 1) os) ≡ found os
    label_passed isnt inv =
        sym (ap found (left os i o lt is) ∙ ap (λ c. if c then Some o.port else found (drop (i + 1) os)) (sym h ∙ isnt)) ∙ inv

  pub label_missed : length os ≤ i → found (drop i os) ≡ found os → None ≡ found os
  label_missed le inv = sym (sym inv ∙ ap found (drop_all i os le))
