use Rattle.std.proofs.Common.{◌≡◌, ◌++◌}
use Rattle.std.specs.Prelude.{string_bytes}
use denote.Text.{Utf8}
use denote.Shadow.{shadow}
use Rattle.nf_texts.specs.Joined.{joined}
use Rattle.nf_texts.proofs.Leading.{led, left}
use Rattle.nf_texts.proofs.joining.joined.Given as goal

abbrev pub invariant-loop-item : goal.invariant-loop-item
invariant-loop-item l = record {
  is_text : shadow (Utf8 l.separator);
  same : string_bytes l.out ++ led l.separator l.between (left l.item-items l.item-index) ≡ joined l.between (left l.item-items 0);
}
