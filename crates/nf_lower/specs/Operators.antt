-- What is due of the calls of operators.
use Rattle.std.specs.Prelude.{◌≡◌, ℕ, true, List, Some}
use Rattle.nf_value.specs.declared.place.Place.{Place}
use Rattle.nf_bag.specs.declared.rows.Row.{Row}
use Rattle.nf_bag.specs.declared.rows.Row.TheVariants.{Set}
use Rattle.nf_optable.specs.declared.rows.OpRow.{OpRow}
use Rattle.nf_optable.specs.Rows.{operator_rows, row_of}
use Rattle.nf_arguments.specs.declared.args.Args.{Args}
use Rattle.nf_arguments.specs.declared.one.One.{One}
use Rattle.nf_arguments.specs.Args.{AreArgs, IsOne as IsArg, written_args}
use Rattle.nf_meaning.specs.Arguments as meaning
use Rattle.nf_meaning.specs.Arguments.{unnamed}
use Rattle.nf_meaning.specs.Expressions.{channel_wanted}
use Rattle.nf_meaning.specs.Operators.{with_channel}
use Rattle.nf_meaning.specs.Sizes.{counted}
use Rattle.nf_meaning.specs.Stands.{PortThing, known, read, results}
use Rattle.nf_meaning.specs.Taken.{ports_of, takes}
use Rattle.nf_meaning.specs.Things.{Thing}
use Rattle.nf_meaning.specs.Walk.{Walk, ◌>>=◌}
use Rattle.nf_scopes.specs.declared.things.Thing as memory
use Rattle.nf_plan.specs.Runs.{bags_of}
use Rattle.nf_walked.specs.Forms.{a_thing}
use Rattle.nf_walked.specs.Steps.{Due}

-- the row stands in the table
pub record IsListed (k : OpRow) : Type 0 where
  pub name : List ℕ
  pub listed : row_of name operator_rows ≡ Some k

-- an operator that isn't `set`
abbrev pub IsOther : Row → Type 0
IsOther Set = ⊥
IsOther _ = Unit {0}

-- the operator takes so many arguments without a name
abbrev pub TakesArgs : OpRow → Args → Type 0
TakesArgs k x = takes k (unnamed (written_args x)) ≡ true

-- the channels that a call with these arguments reads
abbrev pub reads_in : OpRow → Args → ℕ
reads_in k x = ports_of k (unnamed (written_args x))

-- an operator that isn't `set` on what was made before
abbrev pub on_thing : Place → OpRow → Row → Thing → List meaning.Arg → Walk Thing
on_thing p k r t xs = channel_wanted p t >>= λ c. counted p (ports_of k (unnamed xs)) >>= λ _. with_channel p k r xs c

-- the argument that an operator is called on, with the others
abbrev pub of_received : One → Args → (meaning.Arg → List meaning.Arg → Walk Thing)
    → Due (meaning.Arg × List meaning.Arg) memory.Thing Thing
of_received x args w = record {
  In = λ p z y. IsArg (bags_of p.run z.plan) x y.0 × AreArgs (bags_of p.run z.plan) args y.1;
  walk = λ y. w y.0 y.1;
  form = a_thing;
}

-- what is no call of several outputs
abbrev pub IsOne : PortThing → Type 0
IsOne (known v) = Unit {0}
IsOne (read p) = Unit {0}
IsOne (results os) = ⊥
