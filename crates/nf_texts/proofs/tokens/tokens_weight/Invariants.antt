use Rattle.std.proofs.Common.{◌≡◌, ◌+◌, ◌≤◌, ◌^◌, min, length}
use Rattle.std.specs.Str.{chars}
use denote.Text.{Utf8}
use denote.Shadow.{shadow}
use Rattle.nf_value.specs.Plain.{plains_of}
use Rattle.nf_value.specs.Code.{all_code}
use Rattle.nf_texts.specs.Texts.{is_one_of, token_texts}
use Rattle.nf_texts.proofs.tokens.tokens_weight.Given as goal

abbrev pub invariant-loop-part : goal.invariant-loop-part
invariant-loop-part l = record { is_text : shadow (Utf8 l.left); small : l.weight ≤ 2 ^ 32; same : min (l.weight + length (all_code (plains_of (token_texts (is_one_of (chars l.separators)) (chars l.left))))) (2 ^ 32) ≡ min (length (all_code (plains_of (token_texts (is_one_of (chars l.separators)) (chars l.initial.left))))) (2 ^ 32) }

abbrev pub decreases-loop-part : goal.decreases-loop-part
decreases-loop-part l = length l.left
