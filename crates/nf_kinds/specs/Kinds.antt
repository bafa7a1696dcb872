-- What an expression in a workflow's body may be: a plain value, a value channel, a queue, a call's result with its
-- outputs, or unknown.
use Rattle.std.specs.Prelude.{◌==◌, Bool, true, false, ◌||◌, not, List, [], ◌∷◌, ◌++◌, Option, Some, None, if◌then◌else◌}
use Rattle.std.specs.Str.{bytes_eq}
use Rattle.nf_kinds.specs.declared.kinds.Kinds.{Kinds}
use Rattle.nf_kinds.specs.declared.kinds.Key.{Key}
use Rattle.nf_kinds.specs.declared.kinds.Key.TheVariants as key
use Rattle.nf_kinds.specs.declared.kinds.Output.{Output}

-- ---- kinds

-- what is known, and may be a plain value, a value channel, a queue
abbrev pub known : Bool → Bool → Bool → Kinds
known p v q = record { unknown = false; plain = p; value = v; queue = q }

-- a call's result that isn't one channel
abbrev pub no_kind : Kinds
no_kind = known false false false

abbrev pub plain_kind : Kinds
plain_kind = known true false false

abbrev pub unknown_kind : Kinds
unknown_kind = record { unknown = true; plain = false; value = false; queue = false }

-- a queue, or a value channel
abbrev pub channel_kind : Bool → Kinds
channel_kind q = known false (not q) q

abbrev pub is_channel : Kinds → Bool
is_channel k = k.value || k.queue

-- what may be the one or the other: unknown only where both are
abbrev pub either : Kinds → Kinds → Kinds
either a b =
    if a.unknown then b
    else (if b.unknown then a else known (a.plain || b.plain) (a.value || b.value) (a.queue || b.queue))

-- what it is where a channel is due: a plain value becomes a value channel
abbrev pub as_channel : Kinds → Kinds
as_channel k = record { unknown = k.unknown; plain = false; value = k.plain || k.value; queue = k.queue }

-- a plain value, unless something in it is unknown
abbrev pub plain_unless : Bool → Kinds
plain_unless u = if u then unknown_kind else plain_kind

-- ---- outputs

abbrev pub is_key : Key → Key → Bool
is_key (key.At i) (key.At j) = i == j
is_key (key.Called n) (key.Called m) = bytes_eq n m
is_key (key.At i) (key.Called m) = false
is_key (key.Called n) (key.At j) = false

-- an output that isn't there is unknown
abbrev pub output_in : Key → List Output → Kinds
output_in k [] = unknown_kind
output_in k (o ∷ os) = if is_key o.key k then o.kinds else output_in k os

abbrev pub has_key : Key → List Output → Bool
has_key k [] = false
has_key k (o ∷ os) = if is_key o.key k then true else has_key k os

-- what one of them may be, whichever it is
abbrev pub some_output : List Output → Kinds
some_output [] = unknown_kind
some_output (o ∷ os) = either o.kinds (some_output os)

-- outputs after both arms
abbrev pub both_outputs : List Output → List Output → List Output
both_outputs [] bs = []
both_outputs (o ∷ os) bs = record { key = o.key; kinds = either o.kinds (output_in o.key bs) } ∷ both_outputs os bs

abbrev pub missing_outputs : List Output → List Output → List Output
missing_outputs xs [] = []
missing_outputs xs (o ∷ os) = if has_key o.key xs then missing_outputs xs os else o ∷ missing_outputs xs os

abbrev pub merged_outputs : Option (List Output) → Option (List Output) → Option (List Output)
merged_outputs None bs = bs
merged_outputs (Some xs) None = Some xs
merged_outputs (Some xs) (Some bs) = Some (both_outputs xs bs ++ missing_outputs xs bs)

-- ---- kinds with outputs

pub record Shaped : Type 0 where
  pub kinds : Kinds
  -- of a call's result; there may be none of them
  pub outputs : Option (List Output)

abbrev pub alone : Kinds → Shaped
alone k = record { kinds = k; outputs = None }

abbrev pub merged : Shaped → Shaped → Shaped
merged a b = record { kinds = either a.kinds b.kinds; outputs = merged_outputs a.outputs b.outputs }

-- a property or an index: an output of a call's result, and else a part of a plain value
abbrev pub part_by : (List Output → Kinds) → Option (List Output) → Kinds → Kinds
part_by f None k = plain_unless k.unknown
part_by f (Some os) k = either (f os) (plain_unless (not k.plain))

abbrev pub output_of : Key → Shaped → Kinds
output_of k s = part_by (output_in k) s.outputs s.kinds

-- an index that isn't a number may be that of each output
abbrev pub some_output_of : Shaped → Kinds
some_output_of s = part_by some_output s.outputs s.kinds
