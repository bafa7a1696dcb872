-- A source is added, in memory and in the walk.
use Rattle.std.proofs.Common.{◌≡◌, ◌+◌, ℕ, List, [], ◌∷◌, ◌++◌, Ok, length, refl, sym, ap, subst, arith}
use Rattle.nf_graph.specs.declared.node.Node.{Node}
use Rattle.nf_graph.specs.declared.port.Port.{Port}
use Rattle.nf_plan.specs.declared.builder.PlanBuilder.{PlanBuilder}
use Rattle.nf_plan.specs.declared.calls.SourceCall.{SourceCall}
use Rattle.nf_plan.specs.declared.sizes.Sizes.{Sizes}
use Rattle.nf_plan.specs.declared.want.Want.{Want}
use Rattle.nf_plan.specs.Calls.{PortsRead, next_port}
use Rattle.nf_plan.specs.Plans.{ports_in, want_of}
use Rattle.nf_plan.specs.Runs.{SourceStands, WantStands}
use Rattle.nf_follows.specs.Extends.{Extends}
use Rattle.nf_follows.specs.Lowers.{Lowers}
use Rattle.nf_follows.specs.Rooms.{KeepsRoom}
use Rattle.nf_lowering.specs.declared.state.Lowering.{Lowering}
use Rattle.nf_lowering.specs.State.{IsLowering, IsPort, lowering}
use Rattle.nf_lowering.specs.Nodes.{gives_source, wanting}
use Rattle.nf_lowering.proofs.Lasting.{StandsOn}
use Rattle.nf_lowering.proofs.Planned.{stands_plan}

pub source_walks : StandsOn → (old : Lowering) (o : SourceCall) (new : PlanBuilder) → Extends old.plan new → IsLowering old → PortsRead old.plan new o.value 1
    → SourceStands old.plan o new → (port : Port) → port ≡ next_port old.plan o.value 0 → (braces : List (List (List ℕ)))
    → Lowers (lowering braces) (gives_source o) old (record old { plan = new }) (Ok port)
source_walks law old o new extends k reads added port at braces = record {
  extends = extends;
  follows = λ x a s c runs stands y.
      (let both = added x c s runs y.items y.value stands.plan in record {
        value = (c, s);
        is = refl;
        fits = record {
          stands = stands_plan law braces x old new s s.sizes s.wants s.meant k extends both.0 stands;
          out = subst (λ (q : Port). IsPort x new q c) (sym at) (reads 0 (omega arith), both.1);
        };
      });
}

pub want_walks : StandsOn → (old : Lowering) (w : Want) (new : PlanBuilder) → Extends old.plan new → IsLowering old → WantStands old.plan w new
    → (braces : List (List (List ℕ))) → Lowers (lowering braces) (wanting w) old (record old { plan = new }) (Ok tt)
want_walks law old w new extends k added braces = record {
  extends = extends;
  follows = λ x a s y runs stands is. record {
    value = (tt, record s { wants = s.wants ++ want_of w ∷ [] });
    is = refl;
    fits = record {
      stands = stands_plan law braces x old new s s.sizes (s.wants ++ want_of w ∷ []) s.meant k extends (added x s stands.plan) stands;
      out = tt;
    };
  };
}

-- a plan with the same nodes and sizes keeps its room
pub room_same : (one two : PlanBuilder) → two.nodes.items ≡ one.nodes.items → two.sizes ≡ one.sizes → KeepsRoom one two
room_same one two nodes sizes =
    let n : length two.nodes.items ≡ length one.nodes.items = ap (λ (ns : List Node). length ns) nodes in
    let p : ports_in two.nodes.items ≡ ports_in one.nodes.items = ap ports_in nodes in
    let zn : two.sizes.nodes ≡ one.sizes.nodes = ap (λ (z : Sizes). z.nodes) sizes in
    let zp : two.sizes.ports ≡ one.sizes.ports = ap (λ (z : Sizes). z.ports) sizes in
    record { nodes = omega (arith, n, zn); ports = omega (arith, p, zp) }
