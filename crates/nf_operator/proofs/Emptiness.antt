-- The state of `ifEmpty` before its first item.
use Rattle.std.proofs.Common.{◌≡◌, [], refl, sym}
use Rattle.std.specs.Prelude.{Option, Some, None, IsSome, unwrap_or}
use Rattle.std.specs.Option.{option_map}
use Rattle.std.proofs.lemmas.Bool.{true≢false}
use Rattle.nf_value.specs.Plain.{null}
use Rattle.nf_value.specs.View.{plain_of}
use Rattle.nf_value.specs.declared.value.Value.{Value}
use Rattle.nf_opclose.specs.Kept.{IsIfEmptyAfter}
use Rattle.nf_opclose.specs.Rows.{if_empty_row}
use Rattle.nf_opclose.specs.declared.if_empty.IfEmptyState.{IfEmptyState}
use Rattle.nf_operator.specs.Kept.{IsGathers}
use Rattle.nf_operator.specs.declared.gathers.Gathers.TheVariants as g

pub begun_empty : (start : Option Value) (s : IfEmptyState) → IsSome start → ((v : Value) → start ≡ Some v → IsIfEmptyAfter (plain_of v) [] s) → IsGathers (if_empty_row (unwrap_or (option_map plain_of start) null)) [] (g.IfEmpty s)
begun_empty None s some h = absurd (true≢false (sym some))
begun_empty (Some v) s some h = (plain_of v, refl, h v refl)
