use Rattle.std.proofs.Common.{◌≡◌, ◌+◌, ◌≤◌, ◌^◌, min, length}
use denote.Text.{Utf8}
use denote.Shadow.{shadow}
use Rattle.nf_texts.specs.Texts.{replaced}
use Rattle.nf_texts.proofs.replacing.replaced_len.Given as goal

abbrev pub invariant-loop-front : goal.invariant-loop-front
invariant-loop-front l = record { is_text : shadow (Utf8 l.left); small : l.len ≤ 2 ^ 32; same : min (l.len + length (replaced l.from l.to l.left)) (2 ^ 32) ≡ min (length (replaced l.from l.to l.initial.left)) (2 ^ 32) }

abbrev pub decreases-loop-front : goal.decreases-loop-front
decreases-loop-front l = length l.left
