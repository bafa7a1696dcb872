use Rattle.std.proofs.Common.{◌≡◌, ℕ, List, ◌++◌, length, codes, decimal, ◌∙◌, append_assoc}
use Rattle.nf_gen.specs.Line.{line_count, last_line, gen_line}
use Rattle.nf_gen.proofs.line.generated_line.Goals as goal

-- the pieces of a line, one after the other
joined : (n start lines bytes last : List ℕ)
    → codes "gen " ++ (n ++ (codes " " ++ (start ++ (codes " lines " ++ (lines ++ (codes " bytes " ++ (bytes ++ (codes " last " ++ (last ++ codes "\n")))))))))
    ≡ codes "gen " ++ n ++ codes " " ++ start ++ codes " lines " ++ lines ++ codes " bytes " ++ bytes ++ codes " last " ++ last ++ codes "\n"
joined n start lines bytes last = simp append_assoc

line_is : (n start lines : ℕ) (last report line : List ℕ)
    → line ≡ codes "gen " ++ (decimal n ++ (codes " " ++ (decimal start ++ (codes " lines " ++ (decimal lines ++ (codes " bytes " ++ (decimal (length report) ++ (codes " last " ++ (last ++ codes "\n")))))))))
    → lines ≡ line_count report → last ≡ last_line report → line ≡ gen_line n start report
line_is n start lines last report line is counted found =
    (rw (counted, found) at is) ∙ joined (decimal n) (decimal start) (decimal (line_count report)) (decimal (length report)) (last_line report)

pub returns : goal.returns
returns c = c.of.ensures ∙ line_is c.args.n c.args.start _ _ c.args.report.now _ c.in_ok-line.ensures.ok c.line_count-lines.ensures c.last_line-last.ensures
