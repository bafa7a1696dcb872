-- Names in memory, of which the last is the latest.
use Rattle.std.specs.Prelude.{◌≡◌, ℕ, ◌<◌, List, ◌++◌, length, map, reverse, slice_index_or, slice_set}
use Rattle.nf_value.specs.Plain.{Plain}
use Rattle.nf_value.specs.View.{plain_of, pair_of}
use Rattle.nf_value.specs.declared.value.Value.{Value}
use Rattle.nf_placed.specs.Scope.{value_in, rebound_in}
use Rattle.nf_eval.specs.declared.scope.Scope.{Scope}

abbrev pub bindings : List (List ℕ × Value) → List (List ℕ × Plain)
bindings xs = reverse (map pair_of xs)

-- no name is n: looking it up goes on after the list, and giving it a value changes nothing
abbrev pub HasNone : List ℕ → List (List ℕ × Value) → Type 0
HasNone n xs = ((after : List (List ℕ × Plain)) → value_in n (bindings xs ++ after) ≡ value_in n after) × ((v : Plain) → rebound_in n v (bindings xs) ≡ bindings xs)

-- the latest name n stands at the place i: it has the value of n, and is the one that another value is given to
abbrev pub IsLatest : List ℕ → List (List ℕ × Value) → ℕ → Type 0
IsLatest n xs i = (i < length xs) × (((after : List (List ℕ × Plain)) (d : List ℕ × Value) → value_in n (bindings xs ++ after) ≡ plain_of (slice_index_or xs i d).1) × ((d : List ℕ × Value) (w : Value) → rebound_in n (plain_of w) (bindings xs) ≡ bindings (slice_set xs i ((slice_index_or xs i d).0, w))))

-- the names of a scope with their values, the latest first
abbrev pub names_of : Scope → List (List ℕ × Plain)
names_of s = bindings s.names.items
