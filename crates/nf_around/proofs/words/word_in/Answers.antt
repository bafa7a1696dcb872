use Rattle.std.proofs.Common.{◌≡◌, ◌∙◌, map, sym, ap, rules}
use Rattle.nf_ast.specs.declared.expr.Expr.{the_lemmas}
use Rattle.nf_ast.specs.View.{trees, view_body, view_label}
use Rattle.nf_around.specs.Words.{word_in}
use Rattle.nf_around.proofs.OnlyNames.{labels_no_word}
use Rattle.nf_around.proofs.words.word_in.Goals as goal

pub returns-in-Labels : goal.returns-in-Labels
returns-in-Labels c =
    let xs = c.in-Labels.field-0.items in
    let is : view_body c.args.body.now ≡ trees (map view_label xs) = search (rules, the_lemmas) in
    sym (ap word_in is ∙ labels_no_word xs)
