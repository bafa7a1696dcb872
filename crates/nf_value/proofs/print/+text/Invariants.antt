use Rattle.std.proofs.Common.{◌≡◌, ◌++◌, [], drop, string_bytes}
use denote.Text.{Utf8}
use denote.Shadow.{shadow}
use Rattle.nf_value.proofs.Texts.{led, texts, entries}
use Rattle.nf_value.proofs.print.+text.Given as goal

abbrev pub invariant-push_list-loop-item : goal.invariant-push_list-loop-item
invariant-push_list-loop-item l =
    shadow (Utf8 l.separator)
    × (string_bytes l.out ++ led l.separator (texts (drop l.item-index l.item-items)) ≡ string_bytes l.initial.out ++ led [] (texts l.item-items))

abbrev pub invariant-push_map-loop-pair : goal.invariant-push_map-loop-pair
invariant-push_map-loop-pair l =
    shadow (Utf8 l.separator)
    × (string_bytes l.out ++ led l.separator (entries (drop l.pair-index l.pair-items)) ≡ string_bytes l.initial.out ++ led [] (entries l.pair-items))
