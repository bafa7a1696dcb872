use Rattle.std.proofs.Common.{◌≡◌, ◌∷◌, ◌++◌, string_bytes, drop}
use Rattle.std.specs.List.{flat_map}
use Rattle.nf_tasks.specs.Script.{outdented}
use Rattle.nf_tasks.proofs.script.push_lines.Given as goal

abbrev pub invariant-loop-line : goal.invariant-loop-line
invariant-loop-line l =
    string_bytes l.out ++ flat_map (λ line. 10 ∷ outdented l.margin line.now) (drop l.line-index l.lines) ≡ string_bytes l.initial.out ++ flat_map (λ line. 10 ∷ outdented l.margin line.now) l.lines
