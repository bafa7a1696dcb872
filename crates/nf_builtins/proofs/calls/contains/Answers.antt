use Rattle.nf_builtins.specs.Lists.{list_contains}
use Rattle.nf_builtins.proofs.Lines.{list_gives}
use Rattle.nf_builtins.proofs.calls.contains.Goals as goal

pub returns-in-List : goal.returns-in-List
returns-in-List c = rw c.in-List.is (list_gives c.in-List.list (λ vs. list_contains vs c.args.args.now) c.contains-in-List.result c.contains-in-List.ensures)
