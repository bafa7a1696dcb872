-- Sorted lists of all items, and the least and the greatest.
use Rattle.std.specs.Prelude.{ℕ, List, [], ◌∷◌, Bool, cond, Result, Ok, Option, Some, None}
use Rattle.std.specs.List.{flat_map}
use Rattle.nf_value.specs.Plain.{Plain, null, truth, int, text, file, list, table, plains_of}
use Rattle.nf_bag.specs.Sorted.{sorted_of}
use Rattle.nf_opstream.specs.Push.{Push}
use Rattle.nf_opstream.specs.Fault.{Fault}
use Rattle.nf_opstream.specs.Nested.{items_of}
use Rattle.nf_opclose.specs.Closing.{single}

-- the items of a list, or the value itself
abbrev pub unlisted : Plain → List Plain
unlisted (list vs) = items_of vs
unlisted null = null ∷ []
unlisted (truth b) = truth b ∷ []
unlisted (int i) = int i ∷ []
unlisted (text t) = text t ∷ []
unlisted (file n d l) = file n d l ∷ []
unlisted (table ps) = table ps ∷ []

-- the value; if `flat`, the items of a list in its place
abbrev pub parts_of : Bool → Plain → List Plain
parts_of flat v = cond flat (unlisted v) (v ∷ [])

-- all that is collected
abbrev pub collected : Bool → List Push → List Plain
collected flat q = flat_map (λ x. parts_of flat x.answer) q

-- the list of these values in rising order
abbrev pub sorted_list : List Plain → Result (List (ℕ × Plain)) Fault
sorted_list vs = single (list (plains_of (sorted_of vs)))

abbrev pub if_any : {A : Type 0} → List A → Result (List (ℕ × Plain)) Fault → Result (List (ℕ × Plain)) Fault
if_any [] due = Ok []
if_any (x ∷ q) due = due

-- this value, if there is one
abbrev pub if_some : Option Plain → Result (List (ℕ × Plain)) Fault
if_some None = Ok []
if_some (Some v) = single v

abbrev pub first_of : List Plain → Option Plain
first_of [] = None
first_of (v ∷ vs) = Some v

abbrev pub last_of : List Plain → Option Plain
last_of [] = None
last_of (v ∷ []) = Some v
last_of (v ∷ w ∷ vs) = last_of (w ∷ vs)

-- the least value, if there is one
abbrev pub least_of : List Plain → Option Plain
least_of vs = first_of (sorted_of vs)

-- the greatest value, if there is one
abbrev pub greatest_of : List Plain → Option Plain
greatest_of vs = last_of (sorted_of vs)
