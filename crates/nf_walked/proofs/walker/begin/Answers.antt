use Rattle.std.proofs.Common.{◌∙◌, ap, map, sym}
use Rattle.nf_ast.specs.View.{view, view_branch, view_operand}
use Rattle.nf_fronts.specs.Fronts.{tree_of}
use Rattle.nf_meaning.specs.Places.{begins_at}
use Rattle.nf_lowered.proofs.Chains.{branches_begin, operands_begin, parts_begin}
use Rattle.nf_walked.proofs.walker.begin.Goals as goal

pub returns-in-Operands : goal.returns-in-Operands
returns-in-Operands c = c.begins_at-in-Operands.ensures ∙ sym (ap (λ f. begins_at (tree_of f)) c.in-Operands.is ∙ operands_begin (view c.in-Operands.first.now) (map view_operand c.in-Operands.field-1.now))

pub returns-in-Turns : goal.returns-in-Turns
returns-in-Turns c = c.begins_at-in-Turns.ensures ∙ sym (ap (λ f. begins_at (tree_of f)) c.in-Turns.is ∙ branches_begin (view c.in-Turns.first.now) (map view_branch c.in-Turns.field-1.now))

pub returns-in-Parts : goal.returns-in-Parts
returns-in-Parts c = c.begins_at-in-Parts.ensures ∙ sym (ap (λ f. begins_at (tree_of f)) c.in-Parts.is ∙ parts_begin (view c.in-Parts.first.now) c.in-Parts.field-1.now)
