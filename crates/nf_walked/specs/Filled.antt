-- What the step owes that adds the node of a call which was counted before: it uses the room that was counted.
use Rattle.std.specs.Prelude.{◌≡◌, ℕ, List, Result, OnOk, IfOk}
use Rattle.nf_graph.specs.declared.port.Port.{Port}
use Rattle.nf_meaning.specs.declared.fault.LowerFault.{LowerFault}
use Rattle.nf_meaning.specs.CallPaths.{BodyCalls, GoesOn}
use Rattle.nf_meaning.specs.Operators.{Call, applied}
use Rattle.nf_meaning.specs.Things as meaning
use Rattle.nf_meaning.specs.Things.{Channel}
use Rattle.nf_meaning.specs.Walk.{gives}
use Rattle.nf_scopes.specs.declared.things.Thing.{Thing}
use Rattle.nf_plan.specs.Runs.{RunsNodes}
use Rattle.nf_plan.specs.declared.calls.OperatorCall.{OperatorCall}
use Rattle.nf_plan.specs.declared.calls.SourceCall.{SourceCall}
use Rattle.nf_lowering.specs.declared.state.Lowering.{Lowering}
use Rattle.nf_lowering.specs.Nodes.{FillsRoom, IsApplied, IsSourceOf}
use Rattle.nf_lowering.specs.State.{IsLowering, calls_in}
use Rattle.nf_walked.specs.Forms.{a_port, a_thing}
use Rattle.nf_walked.specs.Steps.{Answers, Due, Known, Later, Point, StandsAt}

-- as `Goes`, with a node more: what was counted for a call that reads so many channels is filled
pub record Fills (ports : ℕ) (old new : Lowering) : Type 0 where
  pub keeps : IsLowering new
  pub calls : (s : BodyCalls) → GoesOn s (calls_in old) → GoesOn s (calls_in new)
  pub room : FillsRoom ports old.plan new.plan
  pub within : new.within.items ≡ old.within.items

-- the step from one state in memory to the next adds that node, and is what is due
pub record Filled {I A B : Type 0} (K : Known) (ports : ℕ) (d : Due I A B) (old new : Lowering)
    (r : Result A LowerFault) : Type 0 where
  pub later : Later old.plan new.plan
  pub goes : OnOk r (Fills ports old new)
  pub fits : IfOk r (d.form.Fits new.plan)
  pub follows : (p : Point) (y : I) → RunsNodes p.run new.plan.infos.items → StandsAt K p old → d.In p old y
      → Answers K d.form p new r (d.walk y)

-- the channel of a source whose items are known
abbrev pub of_source : SourceCall → Due Channel Port Channel
of_source o = record { In = λ p z c. IsSourceOf p.run z.plan o c; walk = λ c. gives c; form = a_port }

-- what an operator gives, applied to what was taken
abbrev pub of_operator : OperatorCall → List (List ℕ) → Due Call Thing meaning.Thing
of_operator o labels = record { In = λ p z c. IsApplied p.run z.plan o labels c; walk = applied; form = a_thing }
