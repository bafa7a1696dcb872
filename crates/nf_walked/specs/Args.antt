-- The arguments of a call, while the walk goes through them.
use Rattle.std.specs.Prelude.{◌≡◌, [], Option, Some, None}
use Rattle.nf_scopes.specs.Things.{thing_of}
use Rattle.nf_plan.specs.declared.builder.PlanBuilder.{PlanBuilder}
use Rattle.nf_follows.specs.Things.{ThingReads}
use Rattle.nf_arguments.specs.declared.args.Args.{Args}
use Rattle.nf_arguments.specs.declared.args.Before.{Before}
use Rattle.nf_arguments.specs.declared.one.One.{One}
use Rattle.nf_arguments.specs.declared.one.One.TheVariants as one

-- what stands before a pipe reads the plan
abbrev pub BeforeReads : PlanBuilder → Option Before → Type 0
BeforeReads b None = Unit {0}
BeforeReads b (Some x) = ThingReads b (thing_of x.thing)

-- and no argument was taken out yet
pub record ArgsRead (b : PlanBuilder) (x : Args) : Type 0 where
  pub reads : BeforeReads b x.before
  pub whole : x.options.now ≡ []

abbrev pub OneReads : PlanBuilder → One → Type 0
OneReads b (one.Before x) = ThingReads b (thing_of x.thing)
OneReads b (one.Written x) = Unit {0}
