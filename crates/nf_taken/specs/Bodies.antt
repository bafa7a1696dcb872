-- What is taken of arguments in a body, by the walks of the meaning.
use Rattle.std.specs.Prelude.{◌≡◌, ℕ, List, Option, Result}
use Rattle.nf_value.specs.Plain.{Plain}
use Rattle.nf_value.specs.View.{plain_of}
use Rattle.nf_value.specs.declared.place.Place.{Place}
use Rattle.nf_ast.specs.Tree.{Tree}
use Rattle.nf_graph.specs.Meaning.{Bags}
use Rattle.nf_optable.specs.declared.rows.Options.{Options}
use Rattle.nf_meaning.specs.declared.fault.LowerFault.{LowerFault}
use Rattle.nf_meaning.specs.Arguments.{Arg}
use Rattle.nf_meaning.specs.Expressions.{value_of}
use Rattle.nf_meaning.specs.Options.{with_option}
use Rattle.nf_meaning.specs.Places.{begins_at}
use Rattle.nf_meaning.specs.Sources as sources
use Rattle.nf_meaning.specs.Sources.{list_wanted}
use Rattle.nf_meaning.specs.Taken as meaning
use Rattle.nf_meaning.specs.Walk.{Around, State, Walk, ◌>>=◌, gives}
use Rattle.nf_around.specs.Around.{IsBody}
use Rattle.nf_around.specs.Gives.{Reads}
use Rattle.nf_taken.specs.declared.body.Body.{Body}
use Rattle.nf_taken.specs.declared.paths.PathArgs.{PathArgs}
use Rattle.nf_taken.specs.declared.taken.Taken.{Taken}
use Rattle.nf_taken.specs.Taken.{IsTaken, with_options}

-- in memory it is the body in which a walk has come to this state
abbrev pub IsIn : {N : Type 0} → (N → List (List ℕ)) → (N → ℕ → List Plain → Option Plain) → Body N → Around → State
    → Type 0
IsIn titles_of answer_of x a s = IsBody titles_of answer_of x.around.now x.names.now a s.scope

-- in whatever body, and whatever was taken before: what is taken then is what the walk comes to
abbrev pub Takes : (Around → State → Type 0) → Taken → (meaning.Taken → Walk meaning.Taken) → Result Taken LowerFault
    → Type 0
Takes is_in before walk r =
    (a : Around) (s : State) (bags : Bags) (t : meaning.Taken) → is_in a s → IsTaken a.given.program bags before t
    → Reads (IsTaken a.given.program bags) (walk t) a s r

-- an option more
abbrev pub option_walk : Options → Place × List ℕ → Arg → meaning.Taken → Walk meaning.Taken
option_walk row n x t = with_option row n x t.options >>= λ o. gives (with_options o t)

-- ---- what answers stand for

abbrev pub IsSame : {A : Type 0} → A → A → Type 0
IsSame x y = x ≡ y

abbrev pub path_args_of : PathArgs → sources.PathArgs
path_args_of x = record { path = x.path; must = x.must }

abbrev pub IsPathArgs : PathArgs → sources.PathArgs → Type 0
IsPathArgs x y = path_args_of x ≡ y

-- the items of a range
abbrev pub range_walk : Tree → Walk (List Plain)
range_walk e = value_of e >>= list_wanted (begins_at e)
