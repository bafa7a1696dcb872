-- Results of calls with their outputs.
use Rattle.std.specs.Prelude.{ℕ, ◌+◌, Bool, true, false, List, [], ◌∷◌, ◌++◌, map, Option, Some, None}
use Rattle.nf_kinds.specs.declared.kinds.Kinds.{Kinds}
use Rattle.nf_kinds.specs.declared.kinds.Key.TheVariants as key
use Rattle.nf_kinds.specs.declared.kinds.Output.{Output}
use Rattle.nf_kinds.specs.Kinds.{Shaped, alone, merged, no_kind, plain_kind}

abbrev pub named_output : Option (List ℕ) → Kinds → List Output
named_output None k = []
named_output (Some n) k = record { key = key.Called n; kinds = k } ∷ []

-- by its place, and by its name
abbrev pub output_at : ℕ → Option (List ℕ) × Kinds → List Output
output_at i o = record { key = key.At i; kinds = o.1 } ∷ named_output o.0 o.1

abbrev pub outputs_from : ℕ → List (Option (List ℕ) × Kinds) → List Output
outputs_from i [] = []
outputs_from i (o ∷ os) = output_at i o ++ outputs_from (i + 1) os

-- the one output, or what has several or none
abbrev pub whole_kind : List (Option (List ℕ) × Kinds) → Kinds
whole_kind [] = no_kind
whole_kind (o ∷ []) = o.1
whole_kind (o ∷ q ∷ more) = no_kind

-- a result with these outputs, in their order
abbrev pub shape_of : List (Option (List ℕ) × Kinds) → Shaped
shape_of os = record { kinds = whole_kind os; outputs = Some (outputs_from 0 os) }

abbrev pub all_of_kind : Kinds → List (Option (List ℕ)) → List (Option (List ℕ) × Kinds)
all_of_kind k ns = map (λ n. (n, k)) ns

-- if so, it may be a plain value too
abbrev pub or_plain : Bool → Shaped → Shaped
or_plain true v = merged v (alone plain_kind)
or_plain false v = v
