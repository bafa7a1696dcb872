-- The tuples that `transpose` makes of a tuple's columns.
use Rattle.std.specs.Prelude.{ℕ, min, List, [], ◌∷◌, map, length, get_or, Option, Some, None, Result, Err}
use Rattle.std.specs.List.{range_with_len}
use Rattle.nf_value.specs.Plain.{Plain, null, truth, int, text, file, list, table, plains_of}
use Rattle.nf_opstream.specs.Fault.{Fault, not_a_tuple}
use Rattle.nf_opstream.specs.Alone.{judged}
use Rattle.nf_opstream.specs.Nested.{items_of}

-- how many items a list has
abbrev pub length_of : Plain → Option ℕ
length_of (list vs) = Some (length (items_of vs))
length_of null = None
length_of (truth b) = None
length_of (int i) = None
length_of (text t) = None
length_of (file n d l) = None
length_of (table ps) = None

abbrev pub lesser : Option ℕ → Option ℕ → Option ℕ
lesser None n = n
lesser (Some m) None = Some m
lesser (Some m) (Some n) = Some (min m n)

-- the length of the shortest column that is a list
abbrev pub shortest : List Plain → Option ℕ
shortest [] = None
shortest (v ∷ vs) = lesser (length_of v) (shortest vs)

-- the item of a list at a place; a value that is no list is the same at each place
abbrev pub at_place : ℕ → Plain → Plain
at_place i (list vs) = get_or (items_of vs) i null
at_place i null = null
at_place i (truth b) = truth b
at_place i (int n) = int n
at_place i (text t) = text t
at_place i (file n d l) = file n d l
at_place i (table ps) = table ps

abbrev pub tuple_at : List Plain → ℕ → Plain
tuple_at vs i = list (plains_of (map (at_place i) vs))

-- one tuple for each place of the shortest list column; the tuple itself if it has no such column
abbrev pub tuples_by : Option ℕ → List Plain → List Plain
tuples_by None vs = list (plains_of vs) ∷ []
tuples_by (Some n) vs = map (tuple_at vs) (range_with_len 0 n)

abbrev pub transposed_list : List Plain → Result (List (ℕ × Plain)) Fault
transposed_list vs = judged (map (λ v. (0, v)) (tuples_by (shortest vs) vs))

abbrev pub transposed : Plain → Result (List (ℕ × Plain)) Fault
transposed (list vs) = transposed_list (items_of vs)
transposed null = Err (not_a_tuple null)
transposed (truth b) = Err (not_a_tuple (truth b))
transposed (int i) = Err (not_a_tuple (int i))
transposed (text t) = Err (not_a_tuple (text t))
transposed (file n d l) = Err (not_a_tuple (file n d l))
transposed (table ps) = Err (not_a_tuple (table ps))
