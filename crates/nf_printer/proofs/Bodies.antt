-- The text of the bodies of workflows and processes.
use Rattle.std.proofs.Common.{◌≡◌, ℕ, List, [], ◌∷◌, ◌++◌, true, ap, refl}
use Rattle.std.specs.Prelude.{codes, if◌then◌else◌}
use Rattle.nf_ast.specs.Tree.{Tree}
use Rattle.nf_ast.specs.View.{trees}
use Rattle.nf_token.specs.declared.token.Mark.TheVariants as m
use Rattle.nf_writer.specs.Ink.{Ink, mark, name, blank}
use Rattle.nf_printer.specs.Bodies.{is_expr}
use Rattle.nf_writer.specs.Lines.{before_first, outside}
use Rattle.nf_printer.specs.Tops.{workflow_parts, statements, task, inner_line, part, body_section, word, braced, process_head}

-- a list of statements is no list of sections
pub workflow_statements : (xs : List Tree) → workflow_parts (trees xs) ≡ statements (trees xs)
workflow_statements [] = refl
workflow_statements (x ∷ xs) = refl

-- an expression is no section
pub task_text : (e : Tree) → is_expr e ≡ true → task e ≡ inner_line ++ part e
task_text e h = ap (λ b. if b then inner_line ++ part e else body_section (codes "script") e) h

-- a process is its head, its parts and its `}`
pub process_text : (n : List ℕ) (body : List Ink) → process_head n ++ body ++ before_first outside ++ mark m.CloseBrace ∷ [] ≡ word (codes "process") ∷ blank ∷ name n ∷ [] ++ braced body
process_text n body = refl
