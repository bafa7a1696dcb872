-- What a thing is as a channel.
use Rattle.std.specs.Prelude.{IfOk}
use Rattle.std.proofs.Common.{◌≡◌, ℕ, Bool, true, List, [], ◌∷◌, Result, Ok, Err, length, refl, sym, ap, ◌∙◌, subst, arith}
use Rattle.nf_value.specs.Plain.{Plain}
use Rattle.nf_value.specs.View.{plain_of}
use Rattle.nf_value.specs.declared.place.Place.{Place}
use Rattle.nf_value.specs.declared.value.Value.{Value}
use Rattle.nf_graph.specs.declared.node.Node.{Node}
use Rattle.nf_graph.specs.declared.port.Port.{Port}
use Rattle.nf_plan.specs.NodeInfo.{NodeInfo}
use Rattle.nf_meaning.specs.declared.fault.LowerFault.{LowerFault}
use Rattle.nf_meaning.specs.Expressions.{channel_wanted}
use Rattle.nf_meaning.specs.Lowered.{Lowered}
use Rattle.nf_meaning.specs.Sizes.{counted, grown}
use Rattle.nf_meaning.specs.Stands.{PortOutput, known, read, results, OutputsStand, ThingStands}
use Rattle.nf_meaning.specs.Things as meaning
use Rattle.nf_meaning.specs.Things.{Channel, Output, a_value, a_channel, outputs, value_channel}
use Rattle.nf_meaning.specs.Walk.{Around, State, gives, then_by}
use Rattle.nf_follows.specs.Given.{Gives, HasFault}
use Rattle.nf_scopes.specs.declared.things.Thing.{Thing}
use Rattle.nf_scopes.specs.declared.things.Thing.TheVariants as thing
use Rattle.nf_scopes.specs.Things.{thing_of}
use Rattle.nf_plan.specs.declared.builder.PlanBuilder.{PlanBuilder}
use Rattle.nf_plan.specs.declared.calls.SourceCall.{SourceCall}
use Rattle.nf_plan.specs.declared.sizes.Sizes.{Sizes}
use Rattle.nf_plan.specs.Calls.{CanAddSource, PortsRead, next_port, source_info, source_node}
use Rattle.nf_plan.specs.Counts.{Counts, Grows}
use Rattle.nf_plan.specs.Plans.{Adds, HasRoom, IsSamePlan, ports_in}
use Rattle.nf_plan.specs.Runs.{Run, SourceStands, bags_of}
use Rattle.nf_plan.specs.Sizes.{sizes_of}
use Rattle.nf_follows.specs.Extends.{Extends}
use Rattle.nf_follows.specs.Lowers.{Gave, Lowers}
use Rattle.nf_follows.specs.Rooms.{KeepsRoom}
use Rattle.nf_follows.specs.Things.{OutputsRead, PortReads, ThingReads}
use Rattle.nf_follows.proofs.Steps.{fault_on}
use Rattle.nf_lowering.specs.declared.state.Lowering.{Lowering}
use Rattle.nf_lowering.specs.State.{IsLowering, IsPort, StandsIn, lowering, process_paths}
use Rattle.nf_lowering.specs.Steps.{as_channel, as_value_channel, counting, only_port}
use Rattle.nf_lowering.proofs.Counting.{counted_is, counted_state, count_extends, count_walks}
use Rattle.nf_lowering.proofs.Lasting.{StandsOn}
use Rattle.nf_lowering.proofs.Planned.{extends_same, no_path, stands_plan}

-- nodes that are added behind, and more
abbrev pub Again : Type 0
Again = (one : PlanBuilder) (two : PlanBuilder) (three : PlanBuilder) → Extends one two → Extends two three → Extends one three

-- ---- a value

module _ (old : Lowering) (p : Place) (v : Value) (braces : List (List (List ℕ))) where
  -- it is one source too many
  pub value_refused : StandsOn → (b : PlanBuilder) (e : LowerFault) → IsLowering old → Counts old.plan p 0 b (Err e) → Lowers (lowering braces) (as_value_channel p v) old (record old { plan = b }) (Err e)
  value_refused law b e k g =
      let one : Lowers (lowering braces) (counting p 0) old (record old { plan = b }) (Err e) = count_walks law old p 0 b (Err e) braces k g in record {
        extends = one.extends;
        follows = λ x a s y runs stands is. fault_after a s e (one.follows x a s tt runs stands tt);
      }
    where
      fault_after : (a : Around) (s : State) (e : LowerFault) → HasFault (counted p 0 a s) e → HasFault (channel_wanted p (a_value (plain_of v)) a s) e
      fault_after a s e h = fault_on (counted p 0) (λ z. gives (value_channel (plain_of v))) a s e h

  -- it is a source of its own
  module _ (law : StandsOn) (again : Again) (mid new : PlanBuilder) (source : SourceCall) (port : Port) (k : IsLowering old) (g : Grows old.plan 0 mid) (items : source.items ≡ plain_of v ∷ [])
      (value : source.value ≡ true) (adds : Adds mid new (source_node source) (source_info source)) (one : Extends mid new) (added : SourceStands mid source new) (at : port ≡ next_port mid source.value 0) where
    whole : Extends old.plan new
    whole = again old.plan mid new (count_extends old.plan p 0 mid (Ok tt) g) one

    pub value_given : PortsRead mid new source.value 1 → Lowers (lowering braces) (as_value_channel p v) old (record old { plan = new }) (Ok port)
    value_given reads = record {
      extends = whole;
      follows = λ x a s y runs stands is.
          (let both = added x (value_channel (plain_of v)) (counted_state 0 s) runs items value (g.stands x s stands.plan) in record {
            value = (value_channel (plain_of v), counted_state 0 s);
            is = ap (then_by a (λ z. gives (value_channel (plain_of v)))) (counted_is p 0 a s (sizes_of old.plan.sizes) stands.plan.sizes g.within);
            fits = record {
              stands = stands_plan law braces x old new s (grown 0 s.sizes) s.wants s.meant k whole both.0 stands;
              out = subst (λ (q : Port). IsPort x new q (value_channel (plain_of v))) (sym at) (reads 0 (omega arith), both.1);
            };
          });
    }

-- a source adds no path
pub source_paths : (old mid new : PlanBuilder) (source : SourceCall) → mid.infos.items ≡ old.infos.items → Adds mid new (source_node source) (source_info source)
    → process_paths new.infos.items ≡ process_paths old.infos.items
source_paths old mid new source same adds =
    ap (λ (xs : List NodeInfo). process_paths xs) adds.infos ∙ no_path mid.infos.items (source_info source) refl ∙ ap (λ (xs : List NodeInfo). process_paths xs) same

-- nor does what isn't added
pub same_paths : (old mid new : PlanBuilder) → mid.infos.items ≡ old.infos.items → new.infos.items ≡ mid.infos.items → process_paths new.infos.items ≡ process_paths old.infos.items
same_paths old mid new one two = ap (λ (xs : List NodeInfo). process_paths xs) (two ∙ one)

-- one item is few
pub can_add : (b : PlanBuilder) (source : SourceCall) (v : Plain) → HasRoom b 0 → source.items ≡ v ∷ [] → CanAddSource b source
can_add b source v room items = record { room = room; single = λ t. omega (arith, ap (λ (vs : List Plain). length vs) items) }

pub same_keeps : (one two : PlanBuilder) → IsSamePlan one two → KeepsRoom one two
same_keeps one two s =
    let n : length two.nodes.items ≡ length one.nodes.items = ap (λ (ns : List Node). length ns) s.nodes in
    let p : ports_in two.nodes.items ≡ ports_in one.nodes.items = ap ports_in s.nodes in
    let zn : two.sizes.nodes ≡ one.sizes.nodes = ap (λ (z : Sizes). z.nodes) s.sizes in
    let zp : two.sizes.ports ≡ one.sizes.ports = ap (λ (z : Sizes). z.ports) s.sizes in
    record { nodes = omega (arith, n, zn); ports = omega (arith, p, zp) }

-- the port reads the plan
pub port_reads : (mid new : PlanBuilder) (value : Bool) (port : Port) → port ≡ next_port mid value 0 → PortsRead mid new value 1 → PortReads new port
port_reads mid new value port at reads = subst (λ (q : Port). PortReads new q) (sym at) (reads 0 (omega arith))

-- ---- any thing

module _ (old new : Lowering) (p : Place) (braces : List (List (List ℕ))) where
  -- both are channels
  as_given : (v : Value) (t : Thing) (x : Run) (a : Around) (s : State) (w : Lowered (Channel × State)) (r : Result Port LowerFault)
      → Gives (Gave (lowering braces) (as_value_channel p v) x a new) w r → Gives (Gave (lowering braces) (as_channel p t) x a new) w r
  as_given v t x a s w (Ok q) h = record { value = h.value; is = h.is; fits = record { stands = h.fits.stands; out = h.fits.out } }
  as_given v t x a s w (Err e) h = h

  -- for the value of the meaning
  given_for : (v : Value) (t : Thing) (x : Run) (a : Around) (s : State) (y : meaning.Thing) (r : Result Port LowerFault) → ThingStands (bags_of x old.plan) (known (plain_of v)) y
      → Gives (Gave (lowering braces) (as_channel p t) x a new) (channel_wanted p (a_value (plain_of v)) a s) r → Gives (Gave (lowering braces) (as_channel p t) x a new) (channel_wanted p y a s) r
  given_for v t x a s (a_value w) r same h = subst (λ u. Gives (Gave (lowering braces) (as_channel p t) x a new) (channel_wanted p (a_value u) a s) r) same h
  given_for v t x a s (a_channel c) r same h = absurd same
  given_for v t x a s (outputs os) r same h = absurd same

  pub known_channel : (v : Value) (t : Thing) (r : Result Port LowerFault) → t ≡ thing.Known v → Lowers (lowering braces) (as_value_channel p v) old new r → Lowers (lowering braces) (as_channel p t) old new r
  known_channel v t r is one = record {
    extends = one.extends;
    follows = λ x a s y runs stands h.
        given_for v t x a s y r (subst (λ (u : Thing). ThingStands (bags_of x old.plan) (thing_of u) y) is h.1)
        (as_given v t x a s (channel_wanted p (a_value (plain_of v)) a s) r (one.follows x a s tt runs stands tt));
  }

module _ (z : Lowering) (p : Place) (braces : List (List (List ℕ))) where
  same_plan : Extends z.plan z.plan
  same_plan = extends_same z.plan z.plan refl refl

  abbrev Here : Thing → Run → Around → Port → Channel × State → Type 0
  Here t x a = Gave (lowering braces) (as_channel p t) x a z

  same_place : (t : Thing) (x : Run) (a : Around) (s : State) (port : Port) (c : Channel) → StandsIn braces x z s → IsPort x z.plan port c → Here t x a port (c, s)
  same_place t x a s port c stands h = record { stands = stands; out = h }

  -- a channel
  read_channel : (t : Thing) (port : Port) (x : Run) (a : Around) (s : State) (y : meaning.Thing) → StandsIn braces x z s → PortReads z.plan port
      → ThingStands (bags_of x z.plan) (read port) y → Gives (Here t x a) (channel_wanted p y a s) (Ok port)
  read_channel t port x a s (a_channel c) stands reads h = record { value = (c, s); is = refl; fits = same_place t x a s port c stands (reads, h) }
  read_channel t port x a s (a_value w) stands reads h = absurd h
  read_channel t port x a s (outputs os) stands reads h = absurd h

  pub port_channel : (t : Thing) (port : Port) → t ≡ thing.Channel port → Lowers (lowering braces) (as_channel p t) z z (Ok port)
  port_channel t port is = record {
    extends = same_plan;
    follows = λ x a s y runs stands h.
        read_channel t port x a s y stands (subst (λ (u : Thing). ThingReads z.plan (thing_of u)) is h.0) (subst (λ (u : Thing). ThingStands (bags_of x z.plan) (thing_of u) y) is h.1);
  }

  -- what a call gives
  only_given : (t : Thing) (x : Run) (a : Around) (s : State) (os : List PortOutput) (qs : List Output) → StandsIn braces x z s → OutputsRead z.plan os → OutputsStand (bags_of x z.plan) os qs
      → Gives (Here t x a) (channel_wanted p (outputs qs) a s) (only_port p os)
  only_given t x a s [] [] stands reads h = refl
  only_given t x a s (o ∷ []) (q ∷ []) stands reads h = record { value = (q.channel, s); is = refl; fits = same_place t x a s o.port q.channel stands (reads.0, h.0.channel) }
  only_given t x a s (o ∷ o' ∷ os) (q ∷ q' ∷ qs) stands reads h = refl
  only_given t x a s [] (q ∷ qs) stands reads h = absurd h
  only_given t x a s (o ∷ os) [] stands reads h = absurd h
  only_given t x a s (o ∷ []) (q ∷ q' ∷ qs) stands reads h = absurd h.1
  only_given t x a s (o ∷ o' ∷ os) (q ∷ []) stands reads h = absurd h.1

  outputs_given : (t : Thing) (x : Run) (a : Around) (s : State) (os : List PortOutput) (y : meaning.Thing) → StandsIn braces x z s → OutputsRead z.plan os → ThingStands (bags_of x z.plan) (results os) y
      → Gives (Here t x a) (channel_wanted p y a s) (only_port p os)
  outputs_given t x a s os (outputs qs) stands reads h = only_given t x a s os qs stands reads h
  outputs_given t x a s os (a_value w) stands reads h = absurd h
  outputs_given t x a s os (a_channel c) stands reads h = absurd h

  pub only_channel : (t : Thing) (os : List PortOutput) (r : Result Port LowerFault) → thing_of t ≡ results os → r ≡ only_port p os → Lowers (lowering braces) (as_channel p t) z z r
  only_channel t os r is given = subst (λ q. Lowers (lowering braces) (as_channel p t) z z q) (sym given) (record {
    extends = same_plan;
    follows = λ x a s y runs stands h.
        outputs_given t x a s os y stands (subst (ThingReads z.plan) is h.0) (subst (λ u. ThingStands (bags_of x z.plan) u y) is h.1);
  })

-- the port of the only output reads the plan
only_reads_by : (b : PlanBuilder) (p : Place) (os : List PortOutput) → OutputsRead b os → IfOk (only_port p os) (PortReads b)
only_reads_by b p [] h = tt
only_reads_by b p (o ∷ []) h = h.0
only_reads_by b p (o ∷ q ∷ os) h = tt

pub only_reads : (b : PlanBuilder) (p : Place) (t : Thing) (os : List PortOutput) (r : Result Port LowerFault) → thing_of t ≡ results os → r ≡ only_port p os → ThingReads b (thing_of t) → IfOk r (PortReads b)
only_reads b p t os r is given h = subst (λ q. IfOk q (PortReads b)) (sym given) (only_reads_by b p os (subst (ThingReads b) is h))

pub channel_reads : (b : PlanBuilder) (t : Thing) (port : Port) → t ≡ thing.Channel port → ThingReads b (thing_of t) → PortReads b port
channel_reads b t port is h = subst (λ (u : Thing). ThingReads b (thing_of u)) is h
