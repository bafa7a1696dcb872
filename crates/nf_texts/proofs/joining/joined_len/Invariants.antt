use Rattle.std.proofs.Common.{◌≡◌, ◌+◌, ◌≤◌, ◌^◌, min, length}
use denote.Text.{Utf8}
use denote.Shadow.{shadow}
use Rattle.nf_texts.specs.Joined.{joined}
use Rattle.nf_texts.proofs.Leading.{led, left}
use Rattle.nf_texts.proofs.joining.joined_len.Given as goal

abbrev pub invariant-loop-item : goal.invariant-loop-item
invariant-loop-item l = record {
  is_text : shadow (Utf8 l.separator);
  small : l.len ≤ 2 ^ 32;
  same : min (l.len + length (led l.separator l.between (left l.item-items l.item-index))) (2 ^ 32) ≡ min (length (joined l.between (left l.item-items 0))) (2 ^ 32);
}
