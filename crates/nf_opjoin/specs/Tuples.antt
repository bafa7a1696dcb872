-- Tuples and their keys.
use Rattle.std.specs.Prelude.{◌==◌, ◌&&◌, ℕ, List, [], ◌∷◌, Bool, false, not, Option, Some, None, slice_get, remove, unwrap_or, Ok, Err}
use Rattle.std.specs.Ordering.{eq_by_cmp}
use Rattle.nf_value.specs.Plain.{Plain, null, truth, int, text, file, list, table}
use Rattle.nf_value.specs.Order.{value_cmp}
use Rattle.nf_opstream.specs.Push.{Push}
use Rattle.nf_opstream.specs.Fault.{not_a_tuple}
use Rattle.nf_opstream.specs.Nested.{items_of}
use Rattle.nf_opjoin.specs.Pairing.{Due}

-- the items of a list; any other value counts as a list of itself
abbrev pub parts_of : Plain → List Plain
parts_of (list vs) = items_of vs
parts_of null = null ∷ []
parts_of (truth b) = truth b ∷ []
parts_of (int i) = int i ∷ []
parts_of (text t) = text t ∷ []
parts_of (file n d l) = file n d l ∷ []
parts_of (table ps) = table ps ∷ []

-- the key of a tuple: its item at this place, if it is long enough
abbrev pub key_at : ℕ → Plain → Option Plain
key_at n (list vs) = slice_get (items_of vs) n
key_at n null = None
key_at n (truth b) = None
key_at n (int i) = None
key_at n (text t) = None
key_at n (file m d l) = None
key_at n (table ps) = None

abbrev pub key_or_null : ℕ → Plain → Plain
key_or_null n v = unwrap_or (key_at n v) null

-- the other items of a tuple
abbrev pub rest_at : ℕ → Plain → List Plain
rest_at n v = remove (parts_of v) n

abbrev pub has_key : Option Plain → Plain → Due
has_key (Some k) v = Ok []
has_key None v = Err (not_a_tuple v)

-- a fault, if the item has no key
abbrev pub keyed : ℕ → Push → Due
keyed n x = has_key (key_at n x.item) x.item

abbrev pub same_key : Option Plain → Option Plain → Bool
same_key (Some k) (Some l) = eq_by_cmp value_cmp k l
same_key (Some k) None = false
same_key None l = false

-- whether an item is of the first input, port 0; any other port is the second input
abbrev pub is_left : Push → Bool
is_left x = x.port == 0

-- x is of the first input, y of the second
abbrev pub faces : Push → Push → Bool
faces x y = is_left x && not (is_left y)

-- the same, with equal keys
abbrev pub meets : ℕ → Push → Push → Bool
meets n x y = faces x y && same_key (key_at n x.item) (key_at n y.item)
