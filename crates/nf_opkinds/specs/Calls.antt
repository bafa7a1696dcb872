-- What calls of sources and processes give, and which rules they break.
use Rattle.std.specs.Prelude.{ℕ, Bool, true, false, ◌&&◌, ◌||◌, not, List, [], ◌∷◌, codes, Option, if◌then◌else◌}
use Rattle.std.specs.Str.{bytes_eq}
use Rattle.nf_value.specs.declared.place.Place.{Place}
use Rattle.nf_kinds.specs.declared.kinds.Kinds.{Kinds}
use Rattle.nf_kinds.specs.declared.fault.OrderRule.TheVariants as rule
use Rattle.nf_kinds.specs.Fault.{breaks_if}
use Rattle.nf_kinds.specs.Kinds.{Shaped, alone, unknown_kind, channel_kind}
use Rattle.nf_kinds.specs.Scope.{call_made}
use Rattle.nf_kinds.specs.Walk.{Walk, came}
use Rattle.nf_kinds.specs.declared.args.Given.{Given}
use Rattle.nf_kinds.specs.Args.{any_unknown, any_queue}
use Rattle.nf_opkinds.specs.Results.{shape_of, all_of_kind}

-- ---- sources

abbrev pub is_queue_source : List ℕ → Bool
is_queue_source n =
    bytes_eq n (codes "of") || (bytes_eq n (codes "fromList") || (bytes_eq n (codes "empty")
    || (bytes_eq n (codes "fromPath") || bytes_eq n (codes "fromFilePairs"))))

abbrev pub source_kind : List ℕ → Kinds
source_kind n =
    if bytes_eq n (codes "value") then channel_kind false
    else (if is_queue_source n then channel_kind true else unknown_kind)

abbrev pub source_call : List ℕ → List Given → Kinds
source_call n args = if any_unknown args then unknown_kind else source_kind n

-- ---- processes

abbrev pub has_two_queues : List Given → Bool
has_two_queues [] = false
has_two_queues (x ∷ xs) = if x.shape.kinds.queue then any_queue xs else has_two_queues xs

-- the outputs of a process: queues where an input is one
abbrev pub process_shape : List (Option (List ℕ)) → List Given → Shaped
process_shape ns args =
    if any_unknown args then alone unknown_kind
    else shape_of (all_of_kind (channel_kind (any_queue args)) ns)

abbrev pub process_call : Place → List ℕ → List (Option (List ℕ)) → List Given → Walk Shaped
process_call p n ns args s =
    came (process_shape ns args) (call_made n (process_shape ns args) s)
    (breaks_if (not (any_unknown args) && has_two_queues args) rule.ProcessQueues p)
