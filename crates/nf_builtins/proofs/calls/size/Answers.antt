use Rattle.nf_builtins.specs.Lists.{list_size}
use Rattle.nf_builtins.proofs.Lines.{list_gives}
use Rattle.nf_builtins.proofs.calls.size.Goals as goal

pub returns-in-List : goal.returns-in-List
returns-in-List c = rw c.in-List.is (list_gives c.in-List.list (λ vs. list_size vs c.args.args.now) c.size-in-List.result c.size-in-List.ensures)
