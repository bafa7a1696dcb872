use Rattle.std.proofs.Common.{ℕ, List, ap, ◌∙◌}
use Rattle.nf_grammar.proofs.Short.{misses, off, first_arm, second_arm, sees}
use Rattle.nf_ast.specs.View.{view}
use Rattle.nf_exprs.specs.Rules.{rules}
use Rattle.nf_exprs.proofs.Steps.{took_one, lifted}
use Rattle.nf_parser.proofs.Words.{plain_no_template}
use Rattle.nf_ast.specs.Tree as tree
use Rattle.nf_exprs.specs.Rules as row
use Rattle.nf_parser.proofs.processes.string.Goals as goal

pub returns-in-Some-clause-parses : goal.returns-in-Some-clause-parses
unfolding rules
returns-in-Some-clause-parses c =
    sees (c.text.ensures ∙ ap (λ (n : List ℕ). tree.text c.in-Some.place c.in-Some.kind n) c.in_ok-text.ensures) (first_arm (took_one c.in-Some.ensures) (off (plain_no_template c.in-Some.ensures)))

pub returns-clause-parses : goal.returns-clause-parses
unfolding rules
returns-clause-parses c =
    lifted (λ x. view x.0) (λ x. x.1.now) (row.template_of 1) (row.string 1) _ _ c.template.result (λ o p. second_arm (misses c.in_default.ensures) p) c.template.ensures.parses
