use Rattle.std.proofs.Common.{◌≡◌, ◌+◌, ◌≤◌, ◌^◌, min, length}
use Rattle.std.specs.Str.{chars}
use denote.Text.{Utf8}
use denote.Shadow.{shadow}
use Rattle.nf_texts.specs.Texts.{is_one_of, token_texts}
use Rattle.nf_texts.proofs.tokens.token_count.Given as goal

abbrev pub invariant-loop-part : goal.invariant-loop-part
invariant-loop-part l = record { is_text : shadow (Utf8 l.left); small : l.count ≤ 2 ^ 32; same : min (l.count + length (token_texts (is_one_of (chars l.separators)) (chars l.left))) (2 ^ 32) ≡ min (length (token_texts (is_one_of (chars l.separators)) (chars l.initial.left))) (2 ^ 32) }

abbrev pub decreases-loop-part : goal.decreases-loop-part
decreases-loop-part l = length l.left
