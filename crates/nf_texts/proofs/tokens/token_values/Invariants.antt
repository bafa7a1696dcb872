use Rattle.std.proofs.Common.{◌≡◌, ◌++◌, length, map}
use Rattle.std.specs.Str.{chars}
use denote.Text.{Utf8}
use denote.Shadow.{shadow}
use Rattle.nf_value.specs.View.{plain_of}
use Rattle.nf_texts.specs.Texts.{is_one_of, token_texts}
use Rattle.nf_texts.proofs.tokens.token_values.Given as goal

abbrev pub invariant-loop-part : goal.invariant-loop-part
invariant-loop-part l = record { is_text : shadow (Utf8 l.left); same : map plain_of l.parts.items ++ token_texts (is_one_of (chars l.separators)) (chars l.left) ≡ token_texts (is_one_of (chars l.separators)) (chars l.initial.left) }

abbrev pub decreases-loop-part : goal.decreases-loop-part
decreases-loop-part l = length l.left
