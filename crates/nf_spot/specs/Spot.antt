-- How a node's part of the state lies in memory.
use Rattle.std.specs.Prelude.{◌≡◌, ◌<◌, ◌+◌, ◌^◌, ℕ, suc, List, [], ◌∷◌, ◌++◌, false, true, nat_lt, length, map, slice_index_or, Result, Ok, Option, Some, None, MatchResult}
use Rattle.std.specs.Global.{Vec}
use Rattle.nf_value.specs.Plain.{Plain}
use Rattle.nf_value.specs.declared.value.Value.{Value}
use Rattle.nf_bag.specs.Options.{Allows}
use Rattle.nf_bag.specs.declared.fault.OpFault.{OpFault}
use Rattle.nf_bag.specs.declared.rows.Row.{Row}
use Rattle.nf_bag.specs.declared.options.OpOpts.{OpOpts}
use Rattle.nf_opstream.specs.Push.{Push}
use Rattle.nf_opstream.specs.Operator.{to_out}
use Rattle.nf_opstream.specs.Promise.{emits_of, IsFault}
use Rattle.nf_operator.specs.State.{IsAfter, HasRoom}
use Rattle.nf_graph.specs.declared.node.Node.{Node}
use Rattle.nf_graph.specs.declared.node.NodeKind.{NodeKind}
use Rattle.nf_graph.specs.declared.node.NodeKind.TheVariants as k
use Rattle.nf_graph.specs.Rules.{Outs, emit_at}
use Rattle.nf_graph.specs.Meaning.{put}
use Rattle.nf_graph.specs.WellMade.{plain_node, plain_kind}
use Rattle.nf_machine.specs.State.{Spot}
use Rattle.nf_machine.specs.Step.{passed_on, takes, left_at, op_gives, op_ends}
use Rattle.nf_machine.specs.Legal.{MayTake, MayClose}
use Rattle.nf_spot.specs.Numbers.{has, limit_of}
use Rattle.nf_spot.specs.Counts.{IsCounts, total_of}
use Rattle.nf_spot.specs.Heads.{no_inlet}
use Rattle.nf_spot.specs.declared.kept.Kept.{Kept}
use Rattle.nf_spot.specs.declared.kept.Kept.TheVariants as kept
use Rattle.nf_spot.specs.declared.node_state.NodeState.{NodeState}
use Rattle.nf_spot.specs.declared.node_state.Taken.{Taken}

-- ---- what a node keeps by its kind

abbrev pub inputs_taken : Spot → List (List Plain)
inputs_taken sp = map (λ t. t.inputs) sp.taken

abbrev pub IsSourceKept : Kept → Type 0
IsSourceKept kept.Source = Unit {0}
IsSourceKept (kept.Operator s) = ⊥
IsSourceKept (kept.Process c) = ⊥

-- an operator that is closed takes no further call
abbrev pub IsOperatorKept : Row → OpOpts → Spot → Kept → Type 0
IsOperatorKept row opts sp kept.Source = ⊥
IsOperatorKept row opts sp (kept.Operator s) = sp.closed ≡ false → IsAfter row opts sp.pushed s
IsOperatorKept row opts sp (kept.Process c) = ⊥

abbrev pub IsProcessKept : Spot → Kept → Type 0
IsProcessKept sp kept.Source = ⊥
IsProcessKept sp (kept.Operator s) = ⊥
IsProcessKept sp (kept.Process c) = IsCounts (inputs_taken sp) c

abbrev pub IsKept : NodeKind → Spot → Kept → Type 0
IsKept (k.Source items) sp c = IsSourceKept c
IsKept (k.Op row opts) sp c = IsOperatorKept row opts sp c
IsKept (k.Process queue) sp c = IsProcessKept sp c

-- the options of an operator are allowed
abbrev pub AllowsKind : NodeKind → Type 0
AllowsKind (k.Source items) = Unit {0}
AllowsKind (k.Op row opts) = Allows row opts
AllowsKind (k.Process queue) = Unit {0}

-- an operator, with room for one more item
abbrev pub HasPushRoom : Kept → Type 0
HasPushRoom kept.Source = ⊥
HasPushRoom (kept.Operator s) = HasRoom s
HasPushRoom (kept.Process c) = ⊥

-- room for one more take of a process
abbrev pub HasKeptRoom : Kept → Type 0
HasKeptRoom kept.Source = Unit {0}
HasKeptRoom (kept.Operator s) = Unit {0}
HasKeptRoom (kept.Process c) = total_of c + 1 < 2 ^ 32

-- a process, with that room
abbrev pub HasCountRoom : Kept → Type 0
HasCountRoom kept.Source = ⊥
HasCountRoom (kept.Operator s) = ⊥
HasCountRoom (kept.Process c) = total_of c + 1 < 2 ^ 32

-- what a push gives, and what the operator keeps after it
abbrev pub PushesOn : NodeKind → Spot → Push → Result (Vec (ℕ × Value)) OpFault → Kept → Type 0
PushesOn kind sp x r new =
    MatchResult r (λ es. (op_gives (plain_kind kind) sp.pushed x ≡ Ok (emits_of es.items)) × IsKept kind (record sp { pushed = x ∷ sp.pushed }) new)
    (IsFault (op_gives (plain_kind kind) sp.pushed x))

-- what the close gives, and what is kept after it
abbrev pub ClosesOn : NodeKind → Spot → Result (Vec (ℕ × Value)) OpFault → Kept → Type 0
ClosesOn kind sp r new =
    MatchResult r (λ es. (op_ends (plain_kind kind) sp.pushed ≡ Ok (emits_of es.items)) × IsKept kind (record sp { closed = true }) new)
    (IsFault (op_ends (plain_kind kind) sp.pushed))

-- ---- the whole

-- the outputs and the ports of the node, what its operator or its counts keep, and at which ports something waits
pub record IsNode (node : Node) (sp : Spot) (c : NodeState) : Type 0 where
  pub outs : length c.outlets.items ≡ node.outs
  pub emits : (out : ℕ) → out < node.outs → slice_index_or c.outlets.items out [] ≡ sp.emitted out
  pub ports : length c.inlets.items ≡ length node.ports
  pub inlet : (port : ℕ) → port < length node.ports → slice_index_or c.inlets.items port no_inlet ≡ (sp.passed port, sp.waiting port)
  pub limit : limit_of c.filled ≡ length node.ports
  pub fills : (port : ℕ) → port < length node.ports → has c.filled port ≡ nat_lt 0 (length (sp.waiting port))
  pub keeps : IsKept node.kind sp c.kept

abbrev pub outs_of : NodeState → ℕ
outs_of c = length c.outlets.items

abbrev pub ports_of : NodeState → ℕ
ports_of c = length c.inlets.items

-- how many items passed to a port, and those that wait there
abbrev pub passed_at : NodeState → ℕ → ℕ
passed_at c port = (slice_index_or c.inlets.items port no_inlet).0

abbrev pub waiting_at : NodeState → ℕ → List Plain
waiting_at c port = (slice_index_or c.inlets.items port no_inlet).1

-- what was emitted to an output
abbrev pub emitted_at : NodeState → ℕ → List Plain
emitted_at c out = slice_index_or c.outlets.items out []

-- ---- steps

-- an item passes to a port and waits there
abbrev pub waits_on : Spot → ℕ → Plain → Spot
waits_on sp port x = record (passed_on sp port) { waiting = put sp.waiting port (sp.waiting port ++ x ∷ []) }

-- the item at a place of a port leaves it
abbrev pub leaves_on : Spot → ℕ → ℕ → Spot
leaves_on sp port place = record sp { waiting = left_at (suc port) place sp.waiting }

-- a value goes to an output
abbrev pub emits_on : Spot → ℕ → Plain → Spot
emits_on sp out x = record sp { emitted = λ o. sp.emitted o ++ to_out o ((out, x) ∷ []) }

-- values go to outputs, in their order
abbrev pub emits_all_on : Spot → List (ℕ × Plain) → Spot
emits_all_on sp es = record sp { emitted = λ o. sp.emitted o ++ to_out o es }

-- what a task comes to goes to its outputs
abbrev pub outs_on : Spot → Outs → Spot
outs_on sp outs = record sp { emitted = λ o. sp.emitted o ++ emit_at outs o }

-- what a Take leaves
abbrev pub takes_on : Node → Spot → ℕ → ℕ → Spot
takes_on node sp port place =
    let t = takes (plain_node node) sp port place in
    record sp { waiting = left_at t.slot place sp.waiting; taken = t ∷ sp.taken }

-- the node may take the item at this place of this port
abbrev pub MayTakeAt : Node → Spot → ℕ → ℕ → Type 0
MayTakeAt node sp port place = MayTake (plain_node node) (plain_kind node.kind) sp port place

-- so may the node that lies in memory so
pub record HasTake (node : Node) (c : NodeState) (port place : ℕ) : Type 0 where
  pub spot : Spot
  pub shows : IsNode node spot c
  pub may : MayTakeAt node spot port place

-- a take: its inputs, and how many takes of equal inputs came before
pub record IsTaken (node : Node) (sp : Spot) (port place : ℕ) (t : Taken) : Type 0 where
  pub inputs_are : t.inputs ≡ (takes (plain_node node) sp port place).inputs
  pub n_is : t.n ≡ (takes (plain_node node) sp port place).n

-- no item of the node can be taken
abbrev pub MayNotTake : Node → Spot → Type 0
MayNotTake node sp = (port place : ℕ) → MayTakeAt node sp port place → ⊥

-- nothing more can be taken of the node
abbrev pub IsSpent : Node → Spot → Type 0
IsSpent node sp = MayClose (plain_node node) (plain_kind node.kind) sp

-- the item at the place of the queue port leaves it, if there is such a port
abbrev pub queue_leaves : Spot → Option ℕ → ℕ → Spot
queue_leaves sp None place = sp
queue_leaves sp (Some q) place = leaves_on sp q place

-- ---- what the public calls say of what is kept

-- an operator, with room for one more item
abbrev pub CanPush : NodeState → Type 0
CanPush c = HasPushRoom c.kept

-- room for one more take of a process
abbrev pub HasTakeRoom : NodeState → Type 0
HasTakeRoom c = HasKeptRoom c.kept

-- what a push gives, and the state after it
abbrev pub Pushes : Node → Spot → Push → Result (Vec (ℕ × Value)) OpFault → NodeState → Type 0
Pushes node sp x r new =
    MatchResult r (λ es. (op_gives (plain_kind node.kind) sp.pushed x ≡ Ok (emits_of es.items)) × IsNode node (record sp { pushed = x ∷ sp.pushed }) new)
    (IsFault (op_gives (plain_kind node.kind) sp.pushed x))

-- what the close gives, and the state after it
abbrev pub Closes : Node → Spot → Result (Vec (ℕ × Value)) OpFault → NodeState → Type 0
Closes node sp r new =
    MatchResult r (λ es. (op_ends (plain_kind node.kind) sp.pushed ≡ Ok (emits_of es.items)) × IsNode node (record sp { closed = true }) new)
    (IsFault (op_ends (plain_kind node.kind) sp.pushed))
