use Rattle.std.proofs.Common.{ℕ, List, Bor, ◌∷◌, ◌++◌, ap, ◌∙◌}
use Rattle.std.specs.List.{flat_map}
use Rattle.nf_tasks.specs.Script.{outdented}
use Rattle.nf_tasks.proofs.Lines.{joined_first}
use Rattle.nf_tasks.proofs.script.joined.Goals as goal

pub returns : goal.returns
returns c =
    let others = flat_map (λ (line : Bor (List ℕ)). 10 ∷ outdented c.args.margin line.now) c.in-Some.others.now in
    c.of-2.ensures ∙ c.in_ok-push_lines.ensures
    ∙ ap (λ front. front ++ others) (c.in_ok-push_str.ensures.bytes ∙ (λ i. c.new-out.ensures.bytes i ++ c.outdented.ensures i))
    ∙ joined_first c.args.margin c.args.lines.now c.in-Some.others.now c.in-Some.first.now c.in-Some.ensures.cases.0
