use Rattle.std.proofs.Common.{sym, ◌∙◌, rules}
use Rattle.nf_called.proofs.Known.{named_again, named_first}
use Rattle.nf_called.proofs.names.Names.add.Goals as goal

pub returns-then-has : goal.returns-then-has
returns-then-has c = λ before knows. named_again c.args.place c.args.name.now before c.args.self.now knows (sym c.has.ensures ∙ c.if-has.true)

pub returns : goal.returns
returns c = λ before knows.
    named_first c.args.place c.args.name.now before c.args.self.now _ knows (sym c.has.ensures ∙ c.if-has.false) (search rules)
