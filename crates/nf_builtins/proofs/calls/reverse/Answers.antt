use Rattle.nf_builtins.specs.Lists.{list_reverse}
use Rattle.nf_builtins.proofs.Lines.{list_gives}
use Rattle.nf_builtins.proofs.calls.reverse.Goals as goal

pub returns-in-List : goal.returns-in-List
returns-in-List c = rw c.in-List.is (list_gives c.in-List.list (λ vs. list_reverse vs c.args.args.now) c.reverse-in-List.result c.reverse-in-List.ensures)
