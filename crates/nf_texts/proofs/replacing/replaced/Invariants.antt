use Rattle.std.proofs.Common.{◌≡◌, ◌++◌, length}
use Rattle.std.specs.Prelude.{string_bytes}
use denote.Text.{Utf8}
use denote.Shadow.{shadow}
use Rattle.nf_texts.specs.Texts.{replaced}
use Rattle.nf_texts.proofs.replacing.replaced.Given as goal

abbrev pub invariant-loop-front : goal.invariant-loop-front
invariant-loop-front l = record { is_text : shadow (Utf8 l.left); same : string_bytes l.out ++ replaced l.from l.to l.left ≡ replaced l.from l.to l.initial.left }

abbrev pub decreases-loop-front : goal.decreases-loop-front
decreases-loop-front l = length l.left
