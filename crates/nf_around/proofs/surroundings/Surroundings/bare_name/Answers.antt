use Rattle.std.proofs.Common.{◌∙◌, sym}
use Rattle.nf_ast.specs.View.{view}
use Rattle.nf_meaning.specs.Names.{unread}
use Rattle.nf_around.specs.Around.{asked_in}
use Rattle.nf_around.proofs.Asked.{asked, wrong}
use Rattle.nf_around.proofs.Taken.{name_by}
use Rattle.nf_around.proofs.surroundings.Surroundings.bare_name.Goals as goal

pub returns : goal.returns
returns g c a s h is =
    let titles = g.N.Natives.titles in
    let answer = g.N.Natives.answer in
    let x = c.args.self.now in
    let t = view c.args.expr.now in
    name_by t a s is c.in_ok-wrong.wrong c.bad_option.result c.unwrap_or.result
    (sym (wrong titles answer x c.args.names a s.scope h unread t) ∙ sym (c.in_ok-wrong.ensures (asked_in a s.scope) (asked titles answer x c.args.names a s.scope h)))
    c.bad_option.ensures c.unwrap_or.ensures
