use Rattle.std.proofs.Common.{◌≡◌, rules}
use Rattle.nf_ast.specs.declared.expr.Expr.{the_lemmas}
use Rattle.nf_ast.specs.Tree.{cons, empty}
use Rattle.nf_ast.specs.View.{view, view_stmts}
use Rattle.nf_meaning.specs.Places as places
use Rattle.nf_around.proofs.Formed.{formed}
use Rattle.nf_around.proofs.processes.ProcessFormulasFormulas.expression.Goals as goal

pub returns : goal.returns
returns g c =
    let f = c.args.self.now in
    let body : view_stmts c.push.new.self.items ≡ cons (view c.args.expr.now) empty = search (rules, the_lemmas) in
    formed g.N.Natives.titles g.N.Natives.answer f.around.now f.seen.now c.requires.0 c.requires.1 c.begins_at.result (places.begins_at (view c.args.expr.now)) (view_stmts c.push.new.self.items)
    (cons (view c.args.expr.now) empty) c.made.result c.begins_at.ensures body (c.made.ensures c.requires.0 c.requires.1)
