use Rattle.nf_builtins.specs.Lists.{list_index_of}
use Rattle.nf_builtins.proofs.Lines.{list_gives}
use Rattle.nf_builtins.proofs.calls.index_of.Goals as goal

pub returns-in-List : goal.returns-in-List
returns-in-List c = rw c.in-List.is (list_gives c.in-List.list (λ vs. list_index_of vs c.args.args.now) c.index_of-in-List.result c.index_of-in-List.ensures)
