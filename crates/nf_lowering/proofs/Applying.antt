-- The call of an operator is added, in memory and in the walk.
use Rattle.std.proofs.Common.{◌≡◌, ◌≤◌, ℕ, false, List, Ok, length, refl, sym, ap, ◌∙◌, subst}
use Rattle.nf_bag.specs.declared.rows.Row.{Row}
use Rattle.nf_graph.specs.declared.node.Node.{Node}
use Rattle.nf_graph.specs.declared.port.Port.{Port}
use Rattle.nf_plan.specs.NodeInfo.{NodeInfo}
use Rattle.nf_meaning.specs.Meaning.{and_meant}
use Rattle.nf_meaning.specs.Operators as operators
use Rattle.nf_meaning.specs.Operators.{Call, call_meaning, result_of}
use Rattle.nf_meaning.specs.Stands.{StandsFor, ThingStands}
use Rattle.nf_scopes.specs.declared.things.Thing.{Thing}
use Rattle.nf_scopes.specs.Things.{thing_of}
use Rattle.nf_plan.specs.declared.builder.PlanBuilder.{PlanBuilder}
use Rattle.nf_plan.specs.declared.calls.OperatorCall.{OperatorCall}
use Rattle.nf_plan.specs.Calls.{PortsRead, next_port, operator_info, operator_node, operator_value}
use Rattle.nf_plan.specs.Counts.{Grows}
use Rattle.nf_plan.specs.Plans.{Adds, IsSamePlan, is_process}
use Rattle.nf_plan.specs.Runs.{Run, OperatorStands, bags_of}
use Rattle.nf_follows.specs.Extends.{Extends}
use Rattle.nf_follows.specs.Lowers.{Lowers}
use Rattle.nf_follows.specs.Rooms.{KeepsRoom}
use Rattle.nf_follows.specs.Things.{ThingReads}
use Rattle.nf_lowering.specs.declared.state.Lowering.{Lowering}
use Rattle.nf_lowering.specs.State.{IsLowering, lowering, path_if, process_paths}
use Rattle.nf_lowering.specs.Nodes.{FillsRoom, HasLabels, IsApplied, applies, operator_gives}
use Rattle.nf_lowering.proofs.Converting.{same_keeps}
use Rattle.nf_lowering.proofs.Lasting.{StandsOn}
use Rattle.nf_lowering.proofs.Outputs.{gives_read, gives_stand}
use Rattle.nf_lowering.proofs.Planned.{no_path, stands_plan}

-- ---- room

-- the laws of rooms
abbrev pub CallKeeps : Type 0
CallKeeps = (old : PlanBuilder) (counted : PlanBuilder) (ports : ℕ) (before : PlanBuilder) (new : PlanBuilder) (node : Node) (info : NodeInfo) → Grows old ports counted
    → KeepsRoom counted before → Adds before new node info → length node.ports ≤ ports → KeepsRoom old new

abbrev pub KeepsAgain : Type 0
KeepsAgain = (one : PlanBuilder) (two : PlanBuilder) (three : PlanBuilder) → KeepsRoom one two → KeepsRoom two three → KeepsRoom one three

abbrev pub CountKeeps : Type 0
CountKeeps = (old : PlanBuilder) (ports : ℕ) (new : PlanBuilder) → Grows old ports new → KeepsRoom old new

pub node_fills : CallKeeps → (old new : PlanBuilder) (node : Node) (info : NodeInfo) → Adds old new node info → FillsRoom (length node.ports) old new
node_fills law old new node info adds first counted ports g k l = law first counted ports old new node info g k adds l

pub same_fills : KeepsAgain → CountKeeps → (n : ℕ) (old new : PlanBuilder) → IsSamePlan old new → FillsRoom n old new
same_fills again law n old new same first counted ports g k l = again first counted new (law first ports counted g) (again counted old new k (same_keeps old new same))

pub none_fills : KeepsAgain → CountKeeps → (n : ℕ) (b : PlanBuilder) → FillsRoom n b b
none_fills again law n b first counted ports g k l = again first counted b (law first ports counted g) k

-- ---- the step

module _ (old : Lowering) (o : OperatorCall) (ns : List (List ℕ)) (new : PlanBuilder) where
  pub operator_paths : Adds old.plan new (operator_node o) (operator_info o) → is_process o.body ≡ false → process_paths new.infos.items ≡ process_paths old.plan.infos.items
  operator_paths adds body =
      ap (λ (xs : List NodeInfo). process_paths xs) adds.infos ∙ no_path old.plan.infos.items (operator_info o) (ap (λ b. path_if b o.name) body)

  whole : (port : Port) (t : Thing) → port ≡ next_port old.plan (operator_value o) 0 → thing_of t ≡ operator_gives o.row port ns
      → thing_of t ≡ operator_gives o.row (next_port old.plan (operator_value o) 0) ns
  whole port t at is = is ∙ ap (λ (p : Port). operator_gives o.row p ns) at

  pub operator_reads : HasLabels o.row o.opts ns → PortsRead old.plan new (operator_value o) (operator_node o).outs → (port : Port) (t : Thing)
      → port ≡ next_port old.plan (operator_value o) 0 → thing_of t ≡ operator_gives o.row port ns → ThingReads new (thing_of t)
  operator_reads has reads port t at is =
      subst (ThingReads new) (sym (whole port t at is)) (gives_read old.plan new (operator_value o) o.row o.opts ns reads has)

  -- what is given stands for the result of the call
  given : (x : Run) (c : Call) (port : Port) (t : Thing) → ((out : ℕ) → StandsFor (bags_of x new) (next_port old.plan (operator_value o) out) (operators.given_at c out))
      → port ≡ next_port old.plan (operator_value o) 0 → thing_of t ≡ operator_gives o.row port ns → IsApplied x old.plan o ns c → ThingStands (bags_of x new) (thing_of t) (result_of c.row c)
  given x c port t each at is y =
      subst (λ u. ThingStands (bags_of x new) u (result_of c.row c)) (sym (whole port t at is))
      (subst (λ (r : Row). ThingStands (bags_of x new) (operator_gives o.row (next_port old.plan (operator_value o) 0) ns) (result_of r c)) y.call.row
      (gives_stand (bags_of x new) old.plan (operator_value o) c each o.row ns y.labels))

  pub operator_walks : StandsOn → Extends old.plan new → IsLowering old → HasLabels o.row o.opts ns → PortsRead old.plan new (operator_value o) (operator_node o).outs
      → OperatorStands old.plan o new → (port : Port) → port ≡ next_port old.plan (operator_value o) 0 → (t : Thing) → thing_of t ≡ operator_gives o.row port ns
      → (braces : List (List (List ℕ))) → Lowers (lowering braces) (applies o ns) old (record old { plan = new }) (Ok t)
  operator_walks law extends k has reads added port at t is braces = record {
    extends = extends;
    follows = λ x a s c runs stands y.
        (let both = added x c s runs y.call stands.plan in record {
          value = (result_of c.row c, record s { meant = and_meant s.meant (call_meaning c) });
          is = refl;
          fits = record {
            stands = stands_plan law braces x old new s s.sizes s.wants (and_meant s.meant (call_meaning c)) k extends both.0 stands;
            out = (operator_reads has reads port t at is, given x c port t both.1 at is y);
          };
        });
  }
