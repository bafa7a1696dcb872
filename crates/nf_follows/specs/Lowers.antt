-- What a step of lowering owes a walk through a part of the script, in every run of the plan that comes of it.
use Rattle.std.specs.Prelude.{Result}
use Rattle.nf_meaning.specs.declared.fault.LowerFault.{LowerFault}
use Rattle.nf_meaning.specs.Walk.{Around, State, Walk}
use Rattle.nf_lowered.specs.Given.{Gives}
use Rattle.nf_plan.specs.declared.builder.PlanBuilder.{PlanBuilder}
use Rattle.nf_plan.specs.Runs.{Run, RunsNodes}
use Rattle.nf_follows.specs.Extends.{Extends}

-- of a kind of state S in memory: its plan, and for which states of the walk it stands, with what all bodies have
-- around them
pub record Kind (S : Type 0) : Type 1 where
  pub plan : S → PlanBuilder
  pub Stands : Run → Around → S → State → Type 0

-- of a step: for what of the meaning what goes in stands, in the plan before it; the walk that it follows; and for
-- what that comes out stands, in the plan after it
pub record Owed (I A B : Type 0) : Type 1 where
  pub In : Run → PlanBuilder → I → Type 0
  pub walk : I → Walk B
  pub Out : Run → PlanBuilder → A → B → Type 0

-- what was given, and what the walk came to
pub record Gave {S I A B : Type 0} (k : Kind S) (o : Owed I A B) (x : Run) (a : Around) (new : S) (v : A) (z : B × State) : Type 0 where
  pub stands : k.Stands x a new z.1
  pub out : o.Out x (k.plan new) v z.0

-- the step from one state in memory to the next gives something, or a fault, exactly as the walk does
pub record Lowers {S I A B : Type 0} (k : Kind S) (o : Owed I A B) (old new : S) (r : Result A LowerFault) : Type 0 where
  pub extends : Extends (k.plan old) (k.plan new)
  pub follows : (x : Run) (a : Around) (s : State) (y : I) → RunsNodes x (k.plan new).infos.items → k.Stands x a old s
      → o.In x (k.plan old) y → Gives (Gave k o x a new) (o.walk y a s) r

-- what stands in a plan still does after nodes are added behind
abbrev pub Lasts : {I : Type 0} → (Run → PlanBuilder → I → Type 0) → Type 0
Lasts {I} In = (x : Run) (b c : PlanBuilder) (y : I) → Extends b c → In x b y → In x c y
