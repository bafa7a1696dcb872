-- What the calls of operators and processes owe, once their arguments are gone through.
use Rattle.std.specs.Prelude.{◌≡◌, ◌≤◌, ◌<◌, ◌^◌, ℕ, suc, true, List, [], ◌∷◌, ◌++◌, length, map, Option, Some}
use Rattle.nf_builtins.specs.Natives.{is_among}
use Rattle.nf_bag.specs.declared.options.OpOpts.{OpOpts}
use Rattle.nf_bag.specs.declared.rows.Row.{Row}
use Rattle.nf_bag.specs.declared.rows.Row.TheVariants as row
use Rattle.nf_graph.specs.declared.port.Port.{Port}
use Rattle.nf_tasks.specs.declared.process.Output.{Output}
use Rattle.nf_meaning.specs.CallPaths.{BodyCalls, HasNoPath, is_plain_name}
use Rattle.nf_meaning.specs.Calls.{tasks_mean}
use Rattle.nf_meaning.specs.Operators.{Call, applied}
use Rattle.nf_meaning.specs.Stands.{PortOutput, PortThing, read, results}
use Rattle.nf_meaning.specs.Tasks.{TaskCall}
use Rattle.nf_meaning.specs.Things as meaning
use Rattle.nf_meaning.specs.Things.{Channel}
use Rattle.nf_meaning.specs.Walk.{gives, wants}
use Rattle.nf_scopes.specs.declared.things.Thing.{Thing}
use Rattle.nf_scopes.specs.Tables.{Puts}
use Rattle.nf_scopes.specs.Things.{thing_of}
use Rattle.nf_plan.specs.declared.builder.PlanBuilder.{PlanBuilder}
use Rattle.nf_plan.specs.declared.calls.OperatorCall.{OperatorCall}
use Rattle.nf_plan.specs.declared.calls.ProcessCall.{ProcessCall}
use Rattle.nf_plan.specs.declared.calls.SourceCall.{SourceCall}
use Rattle.nf_plan.specs.declared.want.Want.{Want}
use Rattle.nf_plan.specs.Calls.{HasOneQueue}
use Rattle.nf_plan.specs.Counts.{Grows}
use Rattle.nf_plan.specs.Plans.{HasRoom, ReadPlan, want_of}
use Rattle.nf_plan.specs.Runs.{Run, IsOperatorCall, IsProcessCall}
use Rattle.nf_follows.specs.Lowers.{Owed}
use Rattle.nf_follows.specs.Rooms.{KeepsRoom}
use Rattle.nf_lowering.specs.declared.state.Lowering.{Lowering}
use Rattle.nf_lowering.specs.State.{IsDone, IsPort, IsThing, Nothing, calls_in}

-- ---- outputs

-- the port that reads output `out` of the node whose first output a port reads
abbrev pub output_at : Port → ℕ → Port
output_at p out = record { from = p.from; out = out; value = p.value }

-- output `out` of the node, of this name
abbrev pub named_at : Port → ℕ → Option (List ℕ) → PortOutput
named_at p out l = record { label = l; port = output_at p out }

-- the outputs of these names, from output k of the node on
abbrev pub outputs_from : Port → ℕ → List (Option (List ℕ)) → List PortOutput
outputs_from p k [] = []
outputs_from p k (l ∷ ls) = named_at p k l ∷ outputs_from p (suc k) ls

-- what is added uses the room of a call that reads so many channels
abbrev pub FillsRoom : ℕ → PlanBuilder → PlanBuilder → Type 0
FillsRoom n old new =
    (first counted : PlanBuilder) (ports : ℕ) → Grows first ports counted → KeepsRoom counted old → n ≤ ports → KeepsRoom first new

-- ---- sources

-- the source in memory has the items of the channel
pub record IsSourceOf (x : Run) (b : PlanBuilder) (o : SourceCall) (c : Channel) : Type 0 where
  pub items : o.items ≡ c.bag
  pub value : o.value ≡ c.is_value

-- a source that is counted, and whose items are known, becomes a channel
abbrev pub gives_source : SourceCall → Owed Channel Port Channel
gives_source o = record { In = λ x b c. IsSourceOf x b o c; walk = λ c. gives c; Out = IsPort }

-- the files of a path are wanted
abbrev pub wanting : Want → Owed (Unit {0}) (Unit {0}) (Unit {0})
wanting w = record { In = Nothing; walk = λ y. wants (want_of w); Out = IsDone }

-- ---- operators

-- a label as the name of an output
abbrev pub as_name : List ℕ → Option (List ℕ)
as_name n = Some n

-- what an operator gives: a channel, or a channel for each label
abbrev pub operator_gives : Row → Port → List (List ℕ) → PortThing
operator_gives row.Branch p ns = results (outputs_from p 0 (map as_name ns))
operator_gives row.MultiMap p ns = results (outputs_from p 0 (map as_name ns))
operator_gives _ p ns = read p

-- `branch` and `multiMap` have an output for each label
abbrev pub HasLabels : Row → OpOpts → List (List ℕ) → Type 0
HasLabels row.Branch o ns = o.outs ≡ length ns
HasLabels row.MultiMap o ns = o.outs ≡ length ns
HasLabels _ o ns = Unit {0}

-- the call in memory is that of the meaning, and has its labels
pub record IsApplied (x : Run) (b : PlanBuilder) (o : OperatorCall) (ns : List (List ℕ)) (c : Call) : Type 0 where
  pub call : IsOperatorCall x b o c
  pub labels : ns ≡ c.taken.labels

-- an operator is applied to the channels that it reads
abbrev pub applies : OperatorCall → List (List ℕ) → Owed Call Thing meaning.Thing
applies o ns = record { In = λ x b c. IsApplied x b o ns c; walk = applied; Out = λ x b t y. IsThing t x b y }

-- ---- processes

-- the names of the outputs of a process
abbrev pub labels_of : List Output → List (Option (List ℕ))
labels_of os = map (λ o. o.emit) os

-- The call of a process of this name has begun, and no other call has its path; it is counted; it reads the plan, and
-- at most one queue; and its outputs have 32-bit numbers
pub record CanCallProcess (z : Lowering) (n : List ℕ) (p : ProcessCall) : Type 0 where
  pub room : HasRoom z.plan (length p.ports)
  pub reads : ReadPlan z.plan p.ports
  pub queue : HasOneQueue p.ports
  pub outputs : length p.spec.outputs.items < 2 ^ 32
  pub path : p.spec.name ≡ z.path ++ n
  pub plain : is_plain_name n ≡ true
  pub begun : is_among n (calls_in z).called ≡ true
  pub fresh : HasNoPath (calls_in z) n

-- the call in memory is that of the meaning, and its outputs have the same names
pub record IsTasksOf (x : Run) (b : PlanBuilder) (p : ProcessCall) (c : TaskCall) : Type 0 where
  pub call : IsProcessCall x b p c
  pub labels : labels_of p.spec.outputs.items ≡ c.called.labels

-- a process is called by this name on the channels that it reads
abbrev pub calls_process : List ℕ → ProcessCall → Owed TaskCall Thing meaning.Thing
calls_process n p = record { In = λ x b c. IsTasksOf x b p c; walk = tasks_mean n; Out = λ x b t y. IsThing t x b y }

-- what the call of this name gave stands in memory by the name, and nothing else there changed
pub record KeepsCall (n : List ℕ) (given : PortThing) (old new : Lowering) : Type 0 where
  pub thing : Thing
  pub is : thing_of thing ≡ given
  pub puts : Puts n thing old.calls.entries new.calls.entries

-- the calls of the body with a path more
abbrev pub with_path : List ℕ → BodyCalls → BodyCalls
with_path n z = record z { paths = z.paths ++ n ∷ [] }
