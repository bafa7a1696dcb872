-- The calls of operators, in memory.
use Rattle.std.specs.Prelude.{◌≡◌, ◌<◌, ◌^◌, ℕ, true, false, List, [], ◌∷◌, length, Option, Some, Result, Ok, Err}
use Rattle.std.specs.Prelude.{unwrap_or}
use Rattle.std.specs.Option.{option_map}
use Rattle.std.specs.Global.{Vec}
use Rattle.nf_value.specs.Plain.{Plain, null}
use Rattle.nf_value.specs.View.{plain_of}
use Rattle.nf_value.specs.declared.place.Place.{Place}
use Rattle.nf_value.specs.declared.value.Value.{Value}
use Rattle.nf_bag.specs.Options.{Allows}
use Rattle.nf_bag.specs.declared.options.OpOpts.{OpOpts}
use Rattle.nf_bag.specs.declared.rows.Row.{Row}
use Rattle.nf_bag.specs.declared.rows.Row.TheVariants as row
use Rattle.nf_bag.specs.declared.rows.Row.TheVariants.{Set}
use Rattle.nf_bodies.specs.Means.{HasNothing}
use Rattle.nf_graph.specs.declared.port.Port.{Port}
use Rattle.nf_operator.specs.Row.{operator_of, takes_ports}
use Rattle.nf_optable.specs.declared.operator.Operator.TheVariants.{Bag}
use Rattle.nf_optable.specs.declared.rows.OpRow.{OpRow}
use Rattle.nf_tasks.specs.Memory.{Program}
use Rattle.nf_meaning.specs.declared.fault.LowerFault.{LowerFault}
use Rattle.nf_meaning.specs.Arguments.{Arg}
use Rattle.nf_meaning.specs.Operators.{operator_call, operator_with}
use Rattle.nf_meaning.specs.Stands.{StandsFor}
use Rattle.nf_meaning.specs.Taken as meaning
use Rattle.nf_meaning.specs.Taken.{ports_of, take_args, takes}
use Rattle.nf_meaning.specs.Things.{Channel, Thing}
use Rattle.nf_meaning.specs.Walk.{Around, State, Walk, refused}
use Rattle.nf_plan.specs.Plans.{is_process}
use Rattle.nf_plan.specs.Runs.{Run, bags_of}
use Rattle.nf_plan.specs.declared.builder.PlanBuilder.{PlanBuilder}
use Rattle.nf_plan.specs.declared.calls.OperatorCall.{OperatorCall}
use Rattle.nf_lowering.specs.Nodes.{HasLabels, IsApplied}
use Rattle.nf_taken.specs.declared.taken.Closing.{Closing}
use Rattle.nf_taken.specs.declared.taken.Taken.{Taken}
use Rattle.nf_taken.specs.Rows.{IsRowOf}
use Rattle.nf_taken.specs.Taken.{IsClosing, IsTaken}

-- ---- the operator

-- the call is one of this operator, which takes so many arguments
pub record IsCalled (p : Place) (k : OpRow) (n : ℕ) (r : Row) : Type 0 where
  pub operator : k.operator ≡ Bag r
  pub takes_it : takes k n ≡ true
  pub goes_on : (w : Row → Walk Thing) → operator_call p k n w ≡ w r

abbrev pub IsOperatorOf : Place → OpRow → ℕ → Result Row LowerFault → Type 0
IsOperatorOf p k n (Ok r) = IsCalled p k n r
IsOperatorOf p k n (Err e) = (w : Row → Walk Thing) → operator_call p k n w ≡ refused e

-- ---- options

-- `combine` has its first elements as keys, or none
abbrev pub key_of : Row → Option ℕ → Option ℕ
key_of row.Combine by = option_map (λ k. 0) by
key_of r by = by

-- `ifEmpty` without a value has null
abbrev pub start_of : Row → Option Plain → Option Plain
start_of row.IfEmpty v = Some (unwrap_or v null)
start_of r v = v

-- the operator allows the new options, has as many outputs as is said, and with them is what it is with the old ones
pub record Settles (r : Row) (old : OpOpts) (start : Option Value) (outs : ℕ) (new : OpOpts) : Type 0 where
  pub allows : Allows r new
  pub counts : new.outs ≡ outs
  pub same : operator_of r new ≡ operator_with r (record old { outs = outs }) (option_map plain_of start)

-- ---- bodies

-- what was taken of which the answers to items depend
pub record TookBody (n : Program) (c : Closing) (pattern : Option (List ℕ)) (literal : Option Value)
    (t : meaning.Taken) : Type 0 where
  pub closing : IsClosing n c t.closing
  pub matches : pattern ≡ t.pattern
  pub equals : option_map plain_of literal ≡ t.literal

-- ---- calls

-- a call with its labels, of an operator that took this, on the channel that the port reads
pub record IsCallOf (x : Taken) (p : Place) (r : Row) (first : Port) (z : OperatorCall × Vec (List ℕ)) : Type 0 where
  pub row : z.0.row ≡ r
  pub ports : z.0.ports ≡ first ∷ x.ports.items
  pub options : Allows r z.0.opts
  pub body : is_process z.0.body ≡ false
  pub labels : HasLabels r z.0.opts z.1.items
  pub few : length z.1.items < 2 ^ 32
  pub means : (n : Run) (b : PlanBuilder) (t : meaning.Taken) (c : Channel) → IsTaken n.program (bags_of n b) x t
      → StandsFor (bags_of n b) first c
      → IsApplied n b z.0 z.1.items (record { place = p; row = r; taken = t; channels = c ∷ t.channels })

-- `set` took a name, and nothing else
pub record TookName (t : meaning.Taken) : Type 0 where
  pub nothing : HasNothing t
  pub labels : t.labels ≡ []

-- what is taken of these arguments is a name, and nothing else
abbrev pub TakesName : OpRow → Row → List Arg → Type 0
TakesName k r xs =
    (t : meaning.Taken) (a : Around) (s : State) (z : meaning.Taken × State) → TookName t
    → take_args k r xs t a s ≡ Ok z → TookName z.0

-- a call of `set` on the channel that the port reads
pub record IsSetOf (p : Place) (port : Port) (z : OperatorCall) : Type 0 where
  pub row : z.row ≡ Set
  pub ports : z.ports ≡ port ∷ []
  pub options : Allows Set z.opts
  pub body : is_process z.body ≡ false
  pub means : (n : Run) (b : PlanBuilder) (t : meaning.Taken) (c : Channel) → TookName t
      → StandsFor (bags_of n b) port c
      → IsApplied n b z [] (record { place = p; row = Set; taken = t; channels = c ∷ [] })

-- the operator may have so many inputs as a call with so many arguments has
abbrev pub InputsFit : OpRow → Row → ℕ → Type 0
InputsFit k r n = IsRowOf k r → takes k n ≡ true → takes_ports r (ports_of k n) ≡ true
