use Rattle.nf_builtins.specs.Lists.{list_is_empty}
use Rattle.nf_builtins.proofs.Lines.{list_gives}
use Rattle.nf_builtins.proofs.calls.is_empty.Goals as goal

pub returns-in-List : goal.returns-in-List
returns-in-List c = rw c.in-List.is (list_gives c.in-List.list (λ vs. list_is_empty vs c.args.args.now) c.is_empty-in-List.result c.is_empty-in-List.ensures)
