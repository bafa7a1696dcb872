use Rattle.nf_builtins.specs.Lists.{list_take}
use Rattle.nf_builtins.proofs.Lines.{list_gives}
use Rattle.nf_builtins.proofs.calls.take.Goals as goal

pub returns-in-List : goal.returns-in-List
returns-in-List c = rw c.in-List.is (list_gives c.in-List.list (λ vs. list_take vs c.args.args.now) c.take-in-List.result c.take-in-List.ensures)
