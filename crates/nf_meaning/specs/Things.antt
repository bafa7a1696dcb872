-- What a name or an expression of a workflow's body stands for.
use Rattle.std.specs.Prelude.{ℕ, ◌^◌, Bool, true, false, ◌||◌, List, [], ◌∷◌, Option, Some, None, bytes_eq, replicate, if◌then◌else◌}
use Rattle.std.specs.List.{list_all}
use Rattle.nf_value.specs.Plain.{Plain, null, truth, int, text, file, list, table, Plains, no_items, item, PlainPairs, no_pairs, pair}

-- a value channel or a queue, with all items that it ever has
pub record Channel : Type 0 where
  pub is_value : Bool
  pub bag : List Plain

-- an output of a call, by its name, if it has one
pub record Output : Type 0 where
  pub label : Option (List ℕ)
  pub channel : Channel

pub data Thing : Type 0 where
  -- a value that is known before the run
  a_value : Plain → Thing
  a_channel : Channel → Thing
  -- what a call gives, in the order of its outputs
  outputs : List Output → Thing

abbrev pub value_channel : Plain → Channel
value_channel v = record { is_value = true; bag = v ∷ [] }

abbrev pub queue : List Plain → Channel
queue vs = record { is_value = false; bag = vs }

abbrev pub are_values : List Channel → Bool
are_values cs = list_all (λ c. c.is_value) cs

abbrev pub channels_of : List Output → List Channel
channels_of [] = []
channels_of (o ∷ os) = o.channel ∷ channels_of os

-- the only output of a call
abbrev pub only_one : List Output → Option Channel
only_one (o ∷ []) = Some o.channel
only_one [] = None
only_one (o ∷ q ∷ more) = None

-- the output of a name
abbrev pub has_label : List ℕ → Option (List ℕ) → Bool
has_label n (Some m) = bytes_eq m n
has_label n None = false

abbrev pub output_named : List ℕ → List Output → Option Channel
output_named n [] = None
output_named n (o ∷ os) = if has_label n o.label then Some o.channel else output_named n os

-- whether a value is a file, or a list or map that holds one
abbrev mutual
  pub holds_file : Plain → Bool
  holds_file (file n d l) = true
  holds_file (list vs) = one_holds_file vs
  holds_file (table ps) = pair_holds_file ps
  holds_file null = false
  holds_file (truth b) = false
  holds_file (int i) = false
  holds_file (text t) = false

  pub one_holds_file : Plains → Bool
  one_holds_file no_items = false
  one_holds_file (item v vs) = holds_file v || one_holds_file vs

  pub pair_holds_file : PlainPairs → Bool
  pair_holds_file no_pairs = false
  pair_holds_file (pair k v ps) = holds_file v || pair_holds_file ps

-- as if each file had a digest of zeros, and a length of 20 digits
abbrev mutual
  pub widened : Plain → Plain
  widened (file n d l) = file n (replicate 32 0) (10 ^ 19)
  widened (list vs) = list (all_widened vs)
  widened null = null
  widened (truth b) = truth b
  widened (int i) = int i
  widened (text t) = text t
  widened (table ps) = table ps

  pub all_widened : Plains → Plains
  all_widened no_items = no_items
  all_widened (item v vs) = item (widened v) (all_widened vs)

-- the thing that a name stands for
abbrev pub thing_named : List ℕ → List (List ℕ × Thing) → Option Thing
thing_named n [] = None
thing_named n (b ∷ bs) = if bytes_eq b.0 n then Some b.1 else thing_named n bs

-- the value of a thing as expressions see it: a channel has none
abbrev pub value_seen : Thing → Plain
value_seen (a_value v) = v
value_seen (a_channel c) = null
value_seen (outputs os) = null

-- as expressions see it that are evaluated before the run, whose names stand for no file
abbrev pub value_before_run : Thing → Plain
value_before_run (a_value v) = if holds_file v then null else v
value_before_run (a_channel c) = null
value_before_run (outputs os) = null
