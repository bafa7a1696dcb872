-- What is due of sources and files.
use Rattle.std.specs.Prelude.{◌≡◌, Bool, true, false, List, ◌++◌, map, Result}
use Rattle.std.specs.Global.{Vec}
use Rattle.nf_value.specs.Plain.{Plain}
use Rattle.nf_value.specs.View.{plain_of}
use Rattle.nf_value.specs.declared.file.FileRef.{FileRef}
use Rattle.nf_value.specs.declared.place.Place.{Place}
use Rattle.nf_value.specs.declared.value.Value.{Value}
use Rattle.nf_ast.specs.Tree.{Tree}
use Rattle.nf_meaning.specs.declared.fault.LowerFault.{LowerFault}
use Rattle.nf_meaning.specs.Sources as meaning
use Rattle.nf_meaning.specs.Things.{Channel, Thing, a_channel}
use Rattle.nf_meaning.specs.Walk.{Walk, ◌>>=◌, gives}
use Rattle.nf_opargs.specs.declared.sources.Source.{Source}
use Rattle.nf_opargs.specs.declared.sources.Source.TheVariants as source
use Rattle.nf_walked.specs.Stays.{Stays}
use Rattle.nf_scopes.specs.declared.things.Thing as memory
use Rattle.nf_taken.specs.declared.paths.PathArgs.{PathArgs}
use Rattle.nf_taken.specs.Bodies.{IsPathArgs, range_walk}
use Rattle.nf_walked.specs.Forms.{Anything, a_thing}
use Rattle.nf_walked.specs.Steps.{Due, Form, from}

-- ---- forms

abbrev pub plain_pair : Place × Value → Place × Plain
plain_pair v = (v.0, plain_of v.1)

-- values with the places of their arguments
abbrev pub placed : Form (Vec (Place × Value)) (List (Place × Plain))
placed = record { Fits = Anything; Stands = λ x b vs ys. map plain_pair vs.items ≡ ys }

-- a path, and whether there has to be a file
abbrev pub a_path : Form PathArgs meaning.PathArgs
a_path = record { Fits = Anything; Stands = λ x b v y. IsPathArgs v y }

-- whether a source gives a value channel
abbrev pub gives_value : Source → Bool
gives_value source.Value = true
gives_value _ = false

-- the items of the channel that a source gives
abbrev pub items_of : Source → Form (Vec Value) Channel
items_of x = record {
  Fits = Anything;
  Stands = λ r b vs c. record { is_value = gives_value x; bag = map plain_of vs.items } ≡ c;
}

-- ---- walks

-- the items of a range, behind those before it
abbrev pub range_more : Tree → List Plain → Walk (List Plain)
range_more e so_far = range_walk e >>= λ more. gives (so_far ++ more)

-- what a walk that takes no step makes of these values
abbrev pub GivesItems : (List (Place × Plain) → Walk (List Plain)) → Vec (Place × Value)
    → Result (Vec Value) LowerFault → Type 0
GivesItems w given r = Stays (λ vs ys. map plain_of vs.items ≡ ys) (w (map plain_pair given.items)) r

-- what is made of the files of a path, which are wanted
abbrev pub with_files : {D : Type 0} → Bool → (meaning.PathArgs → List FileRef → D) → meaning.PathArgs → Walk D
with_files pairs made x = meaning.files_of pairs x >>= λ fs. gives (made x fs)

-- the channel of these items
abbrev pub of_items : Source → Vec Value → Due Channel memory.Thing Thing
of_items x vs = from (items_of x) vs a_thing (λ c. gives (a_channel c))
