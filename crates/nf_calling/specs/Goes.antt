-- What goes on where a call of a process or a workflow is entered.
use Rattle.std.specs.Prelude.{◌≡◌, ℕ, true, false, List, Result, OnOk, IfOk}
use Rattle.nf_builtins.specs.Natives.{is_among}
use Rattle.nf_meaning.specs.declared.fault.LowerFault.{LowerFault}
use Rattle.nf_meaning.specs.CallPaths.{BodyCalls, GoesOn, HasNoPath, is_plain_name}
use Rattle.nf_plan.specs.declared.builder.PlanBuilder.{PlanBuilder}
use Rattle.nf_plan.specs.Counts.{Grows}
use Rattle.nf_plan.specs.Runs.{RunsNodes}
use Rattle.nf_follows.specs.Rooms.{KeepsRoom}
use Rattle.nf_lowering.specs.declared.state.Lowering.{Lowering}
use Rattle.nf_lowering.specs.Nodes.{FillsRoom}
use Rattle.nf_lowering.specs.State.{IsLowering, calls_in}
use Rattle.nf_walked.specs.Steps.{Answers, Due, Known, Later, Point, StandsAt}

-- ---- steps of other kinds

-- what goes on from one state in memory to a later one
abbrev pub Going : Type 1
Going = Lowering → Lowering → Type 0

-- as `Walked`, where this goes on from the one state to the next
pub record WalkedAs {I A B : Type 0} (G : Going) (K : Known) (d : Due I A B) (old new : Lowering)
    (r : Result A LowerFault) : Type 0 where
  pub later : Later old.plan new.plan
  pub goes : OnOk r (G old new)
  pub fits : IfOk r (d.form.Fits new.plan)
  pub follows : (p : Point) (y : I) → RunsNodes p.run new.plan.infos.items → StandsAt K p old → d.In p old y
      → Answers K d.form p new r (d.walk y)

-- ---- a call

-- the call of this name has begun in the body, and no path so far belongs to it
pub record HasBegun (n : List ℕ) (z : Lowering) : Type 0 where
  pub plain : is_plain_name n ≡ true
  pub begun : is_among n (calls_in z).called ≡ true
  pub fresh : HasNoPath (calls_in z) n

-- The call of this name, which reads so many channels, began behind `first`: it wasn't called there, was counted at
-- once, and no more was added since then than was counted
pub record BeganAfter (n : List ℕ) (ports : ℕ) (first z : Lowering) : Type 0 where
  pub new : is_among n (calls_in first).called ≡ false
  pub counted : PlanBuilder
  pub grows : Grows first.plan ports counted
  pub since : KeepsRoom counted z.plan

-- The call of a process of this name, which had begun and reads so many channels, is added. So the calls go on from any
-- point at which the name wasn't called yet, and the room of what is counted goes on from where the call was counted
pub record GoesCalled (n : List ℕ) (ports : ℕ) (old new : Lowering) : Type 0 where
  pub keeps : IsLowering new
  pub calls : (s : BodyCalls) → GoesOn s (calls_in old) → is_among n s.called ≡ false → GoesOn s (calls_in new)
  pub room : FillsRoom ports old.plan new.plan
  pub within : new.within.items ≡ old.within.items

-- The body of a workflow of this name, whose call had begun, was gone through, and what lies in memory is the body of
-- the call again. So the calls go on from any point at which the name wasn't called yet
pub record GoesInto (n : List ℕ) (old new : Lowering) : Type 0 where
  pub keeps : IsLowering new
  pub calls : (s : BodyCalls) → GoesOn s (calls_in old) → is_among n s.called ≡ false → GoesOn s (calls_in new)
  pub room : (b : PlanBuilder) → KeepsRoom b old.plan → KeepsRoom b new.plan
  pub within : new.within.items ≡ old.within.items
