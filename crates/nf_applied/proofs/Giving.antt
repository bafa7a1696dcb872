-- The channel of a source.
use Rattle.std.proofs.Common.{◌≡◌, ◌∙◌, ◌≤◌, true, List, length, map, Ok, Err, sym, ap, arith}
use Rattle.std.proofs.lemmas.List.{length-map}
use Rattle.std.specs.Global.{Vec}
use Rattle.nf_value.specs.Plain.{Plain}
use Rattle.nf_value.specs.View.{plain_of}
use Rattle.nf_value.specs.declared.value.Value.{Value}
use Rattle.nf_graph.specs.declared.port.Port.{Port}
use Rattle.nf_meaning.specs.declared.fault.LowerFault.{LowerFault}
use Rattle.nf_meaning.specs.Lowered.{Lowered}
use Rattle.nf_meaning.specs.Things.{Channel, Thing, a_channel}
use Rattle.nf_meaning.specs.Walk.{State, gives}
use Rattle.nf_lowered.proofs.Joining.{fault_by}
use Rattle.nf_opargs.specs.declared.sources.Source.{Source}
use Rattle.nf_scopes.specs.declared.things.Thing.TheVariants as thing
use Rattle.nf_plan.specs.declared.builder.PlanBuilder.{PlanBuilder}
use Rattle.nf_plan.specs.declared.calls.SourceCall.{SourceCall}
use Rattle.nf_plan.specs.Calls.{CanAddSource}
use Rattle.nf_plan.specs.Plans.{HasRoom, IsPlan}
use Rattle.nf_plan.specs.Runs.{Run}
use Rattle.nf_lowering.specs.declared.state.Lowering.{Lowering}
use Rattle.nf_lowering.specs.Nodes.{IsSourceOf}
use Rattle.nf_walked.specs.Filled.{Filled, of_source}
use Rattle.nf_walked.specs.Steps.{Known}
use Rattle.nf_applied.specs.Rooms.{Used}
use Rattle.nf_applied.proofs.Rooms.{uses_fills}
use Rattle.nf_applied.specs.Sources.{gives_value, of_items}

abbrev as_thing : Lowered (Channel × State) → Lowered (Thing × State)
as_thing (Ok v) = Ok (a_channel v.0, v.1)
as_thing (Err e) = Err e

module _ (x : Source) (vs : Vec Value) (call : SourceCall) (items : call.items ≡ map plain_of vs.items) (value : call.value ≡ gives_value x) where
  pub can_give : (b : PlanBuilder) → HasRoom b 0 → (gives_value x ≡ true → length vs.items ≤ 1) → CanAddSource b call
  can_give b room single = record {
    room = room;
    single = λ is.
        (let few = single (sym value ∙ is) in
        let n : length call.items ≡ length vs.items = ap (λ (ys : List Plain). length ys) items ∙ length-map vs.items plain_of in
        omega (arith, n, few));
  }

  is_source : (r : Run) (b : PlanBuilder) (c : Channel) → record { is_value = gives_value x; bag = map plain_of vs.items } ≡ c → IsSourceOf r b call c
  is_source r b c is = record { items = items ∙ ap (λ (d : Channel). d.bag) is; value = value ∙ ap (λ (d : Channel). d.is_value) is }

  module _ (K : Known) (old new : Lowering) (plan : IsPlan old.plan) (room : HasRoom old.plan 0) where
    pub source_given : (port : Port) → Filled K 0 (of_source call) old new (Ok port) → Used K 1 0 (of_items x vs) old new (Ok (thing.Channel port))
    source_given port h = record {
      later = h.later;
      goes = uses_fills 0 old new (Ok port) plan room h.goes;
      fits = h.fits;
      follows = λ p c runs stands is.
          (let it = h.follows p c runs stands (is_source p.run old.plan c is) in
          record {
            value = (a_channel it.value.0, it.value.1);
            is = ap (λ (v : Lowered (Channel × State)). as_thing v) it.is;
            fits = record { stands = it.fits.stands; out = it.fits.out };
          });
    }

    pub source_fails : (e : LowerFault) → Filled K 0 (of_source call) old new (Err e) → Used K 1 0 (of_items x vs) old new (Err e)
    source_fails e h = record {
      later = h.later;
      goes = tt;
      fits = tt;
      follows = λ p c runs stands is.
          fault_by (gives c p.around p.state) (gives (a_channel c) p.around p.state) e (λ k. never c p.state e k) (h.follows p c runs stands (is_source p.run old.plan c is));
    }
      where
        never : (c : Channel) (s : State) (e : LowerFault) → ◌≡◌ {A = Lowered (Channel × State)} (Ok (c, s)) (Err e) → ◌≡◌ {A = Lowered (Thing × State)} (Ok (a_channel c, s)) (Err e)
        never c s e k = absurd (let q : ◌≡◌ {A = Lowered (Channel × State)} (Ok (c, s)) (Err e) = k in cc)
