-- What `join` emits for one keyed item, by the maps of both inputs.
use Rattle.std.specs.Prelude.{◌≡◌, ℕ, List, [], ◌∷◌, ◌++◌, Bool, cond, Option, Some, None, is_some, Ok, Err}
use Rattle.std.specs.List.{flat_map}
use Rattle.std.specs.Ordering.{on}
use Rattle.std.specs.declared.cmp.Ordering.{Ordering}
use Rattle.nf_value.specs.Plain.{Plain}
use Rattle.nf_value.specs.View.{plain_of}
use Rattle.nf_value.specs.Order.{value_cmp}
use Rattle.nf_value.specs.declared.value.Value.{Value}
use Rattle.nf_opstream.specs.Fault.{duplicate_key}
use Rattle.nf_opjoin.specs.Pairing.{Due}
use Rattle.nf_opjoin.specs.Tuples.{key_at, rest_at}
use Rattle.nf_opjoin.specs.Combined.{tuple}
use Rattle.nf_opjoin.specs.Joined.{padded}

abbrev pub by_order : Value → Value → Ordering
by_order = on plain_of value_cmp

-- a tuple with this key and this rest
pub record IsSplit (n : ℕ) (v k : Plain) (r : List Plain) : Type 0 where
  pub key : key_at n v ≡ Some k
  pub rest : rest_at n v ≡ r

-- the pair of this key and rest with what the other input has at the key
abbrev pub met : Bool → Plain → List Plain → Option (List Plain) → Due
met first k r None = Ok []
met first k r (Some o) = tuple (k ∷ cond first (r ++ o) (o ++ r))

-- the same; a fault if its own input has the key already
abbrev pub entered : Bool → Plain → List Plain → Option (List Plain) → Option (List Plain) → Due
entered first k r own other = cond (is_some own) (Err (duplicate_key k)) (met first k r other)

-- the entries without a partner, padded with null
abbrev pub unmatched : (Value → Bool) → Bool → List (Value × List Plain) → List Plain
unmatched matched first es = flat_map (λ e. cond (matched e.0) [] (padded first (plain_of e.0) e.1 ∷ [])) es
