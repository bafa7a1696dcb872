use Rattle.nf_builtins.specs.Lists.{list_drop}
use Rattle.nf_builtins.proofs.Lines.{list_gives}
use Rattle.nf_builtins.proofs.calls.drop.Goals as goal

pub returns-in-List : goal.returns-in-List
returns-in-List c = rw c.in-List.is (list_gives c.in-List.list (λ vs. list_drop vs c.args.args.now) c.drop-in-List.result c.drop-in-List.ensures)
