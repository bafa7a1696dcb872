-- What workflows take and emit.
use Rattle.std.specs.Prelude.{◌≡◌, ◌<◌, ◌∷◌, ℕ, List, [], length, Option, Some, None, Result, Ok}
use Rattle.std.specs.Borrow.{Bor}
use Rattle.nf_value.specs.declared.place.Place.{Place}
use Rattle.nf_ast.specs.Tree.{Tree, name}
use Rattle.nf_graph.specs.Node.{port_in}
use Rattle.nf_graph.specs.declared.port.Port.{Port}
use Rattle.nf_lowered.specs.Given.{Gives}
use Rattle.nf_meaning.specs.declared.fault.LowerFault.{LowerFault}
use Rattle.nf_meaning.specs.Lowered.{unless}
use Rattle.nf_scopes.specs.declared.things.CallOutput.{CallOutput}
use Rattle.nf_scopes.specs.declared.things.Thing.{Thing}
use Rattle.nf_scopes.specs.declared.things.Thing.TheVariants as thing
use Rattle.nf_scopes.specs.Tables.{Table, held}

-- nothing is wrong, or the answer is this fault
abbrev pub FaultIs : Option LowerFault → Result (Unit {0}) LowerFault → Type 0
FaultIs fault r = Gives {A = Unit {0}} {B = Unit {0}} (λ u v. Unit {0}) (unless fault (Ok tt)) r

-- a name with its place, as the tree has it
abbrev pub name_at : Place × Bor (List ℕ) → Tree
name_at n = name n.0 n.1.now

-- a label, if there is one, before those
abbrev pub and_label : Option (List ℕ) → List (List ℕ) → List (List ℕ)
and_label (Some n) ns = n ∷ ns
and_label None ns = ns

-- the labels of outputs after those, each before those of the outputs before it
abbrev pub labels_after : List (List ℕ) → List CallOutput → List (List ℕ)
labels_after ns [] = ns
labels_after ns (o ∷ os) = labels_after (and_label o.label ns) os

abbrev pub labels_of : List CallOutput → List (List ℕ)
labels_of os = labels_after [] os

-- each name of the table stands for a channel by one of these ports
abbrev pub OnlyPorts : List Port → Table → Type 0
OnlyPorts ports es =
    (n : List ℕ) (t : Thing) → held n es ≡ Some t → (i : ℕ) × (i < length ports) × (t ≡ thing.Channel (port_in ports i))
