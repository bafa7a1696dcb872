use Rattle.std.proofs.Common.{refl}
use Rattle.nf_ast.specs.View.{view_stmts}
use Rattle.nf_around.proofs.Formed.{formed}
use Rattle.nf_around.proofs.processes.ProcessFormulasFormulas.statements.Goals as goal

pub returns : goal.returns
returns g c =
    let f = c.args.self.now in
    formed g.N.Natives.titles g.N.Natives.answer f.around.now f.seen.now c.requires.0 c.requires.1 c.args.place c.args.place (view_stmts c.in_ok-copied.field-0.items) (view_stmts c.args.body.now) c.made.result
    refl c.in_ok-copied.ensures (c.made.ensures c.requires.0 c.requires.1)
