-- What a step of the walk through a script owes: in memory, and in every run of the plan that comes of it.
use Rattle.std.specs.Prelude.{◌≡◌, ℕ, List, Result, OnOk, IfOk}
use Rattle.nf_meaning.specs.declared.fault.LowerFault.{LowerFault}
use Rattle.nf_meaning.specs.CallPaths.{BodyCalls, GoesOn}
use Rattle.nf_meaning.specs.Stands.{PortThing, ThingStands}
use Rattle.nf_meaning.specs.Things.{Thing}
use Rattle.nf_meaning.specs.Walk.{Around, State, Walk}
use Rattle.nf_lowered.specs.Given.{Gives}
use Rattle.nf_plan.specs.declared.builder.PlanBuilder.{PlanBuilder}
use Rattle.nf_plan.specs.Runs.{Run, RunsNodes, bags_of}
use Rattle.nf_follows.specs.Extends.{Extends}
use Rattle.nf_follows.specs.Rooms.{KeepsRoom}
use Rattle.nf_follows.specs.Things.{ThingReads}
use Rattle.nf_lowering.specs.declared.state.Lowering.{Lowering}
use Rattle.nf_lowering.specs.State.{IsLowering, StandsIn, calls_in}

-- ---- where a walk stands

-- in which run, with what around all bodies, in which braces, and in which state
pub record Point : Type 0 where
  pub run : Run
  pub around : Around
  pub braces : List (List (List ℕ))
  pub state : State

abbrev pub at : State → Point → Point
at s p = record p { state = s }

-- what is known of a run and of what is around all bodies
abbrev pub Known : Type 1
Known = Run → Around → Type 0

-- what lies in memory stands for this point
pub record StandsAt (K : Known) (p : Point) (z : Lowering) : Type 0 where
  pub body : StandsIn p.braces p.run z p.state
  pub around : K p.run p.around

-- of every point for which it stands
abbrev pub Here : Known → Lowering → (Point → Type 0) → Type 0
Here K z holds = (p : Point) → StandsAt K p z → holds p

-- of what is around all bodies, wherever it is known
abbrev pub InAll : Known → (Around → Type 0) → Type 0
InAll K holds = (x : Run) (a : Around) → K x a → holds a

-- ---- steps

-- what comes out: what is known of it in memory, and for what of the meaning it stands in a run
pub record Form (A B : Type 0) : Type 1 where
  pub Fits : PlanBuilder → A → Type 0
  pub Stands : Run → PlanBuilder → A → B → Type 0

-- what is due of a step: for what of the meaning that stands which goes in, the walk that it follows, and the form of
-- what comes out
pub record Due (I A B : Type 0) : Type 1 where
  pub In : Point → Lowering → I → Type 0
  pub walk : I → Walk B
  pub form : Form A B

-- A plan to which nodes may have been added behind, as seen from any plan before: a run of it is one of the plan
-- before, and what a thing stood for there it stands for here
pub record Later (old new : PlanBuilder) : Type 0 where
  pub extends : (b : PlanBuilder) → Extends b old → Extends b new
  pub runs : (x : Run) → RunsNodes x new.infos.items → RunsNodes x old.infos.items
  pub reads : (t : PortThing) → ThingReads old t → ThingReads new t
  pub stands : (x : Run) (t : PortThing) (y : Thing) → ThingReads old t → ThingStands (bags_of x old) t y
      → ThingStands (bags_of x new) t y

-- what lies in memory is in order; and from any point before, the calls of the body and the room of what is counted
-- go on
pub record Goes (old new : Lowering) : Type 0 where
  pub keeps : IsLowering new
  pub calls : (s : BodyCalls) → GoesOn s (calls_in old) → GoesOn s (calls_in new)
  pub room : (b : PlanBuilder) → KeepsRoom b old.plan → KeepsRoom b new.plan
  pub within : new.within.items ≡ old.within.items

-- what was given, and what the walk came to
pub record Came {A B : Type 0} (K : Known) (f : Form A B) (p : Point) (new : Lowering) (v : A) (z : B × State)
    : Type 0 where
  pub stands : StandsAt K (at z.1 p) new
  pub out : f.Stands p.run new.plan v z.0

-- the answer at a point is what the walk comes to there
abbrev pub Answers : {A B : Type 0} → Known → Form A B → Point → Lowering → Result A LowerFault → Walk B → Type 0
Answers K f p new r w = Gives (Came K f p new) (w p.around p.state) r

-- The step from one state in memory to the next is what is due
pub record Walked {I A B : Type 0} (K : Known) (d : Due I A B) (old new : Lowering) (r : Result A LowerFault)
    : Type 0 where
  pub later : Later old.plan new.plan
  pub goes : OnOk r (Goes old new)
  pub fits : IfOk r (d.form.Fits new.plan)
  pub follows : (p : Point) (y : I) → RunsNodes p.run new.plan.infos.items → StandsAt K p old → d.In p old y
      → Answers K d.form p new r (d.walk y)

-- a step of which nothing goes in that stands for something of the meaning
abbrev pub due : {A B : Type 0} → Form A B → Walk B → Due (Unit {0}) A B
due f w = record { In = λ p z y. Unit {0}; walk = λ y. w; form = f }

-- a step of what came out before, in this form
abbrev pub from : {A B C D : Type 0} → Form A B → A → Form C D → (B → Walk D) → Due B C D
from f m g u = record { In = λ p z y. f.Stands p.run z.plan m y; walk = u; form = g }
