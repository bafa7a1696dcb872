-- The nodes and graphs of tests.
use Rattle.std.specs.Prelude.{pos, true, false, List, [], ◌∷◌}
use Rattle.std.specs.declared.option.Option.TheVariants.{None, Some}
use Rattle.nf_value.specs.Plain.{int}
use Rattle.nf_bag.specs.declared.rows.Row.TheVariants.{View}
use Rattle.nf_bag.specs.declared.options.Total.TheVariants.{Sum}
use Rattle.nf_graph.specs.declared.node.Node.{Node}
use Rattle.nf_graph.specs.declared.node.NodeKind.TheVariants as k

-- the operator `view`, which reads output 0 of node 0
abbrev pub view_node : Node
view_node = record {
  kind = k.Op View (record { by = None; remainder = false; sort = false; flat = false; start = None; total = Sum; outs = 0 });
  ports = record { from = 0; out = 0; value = false } ∷ [];
  outs = 1;
}

-- a process with a value port and a queue port, which read output 0 of node 0
abbrev pub paired_node : Node
paired_node = record {
  kind = k.Process (Some 1);
  ports = record { from = 0; out = 0; value = true } ∷ record { from = 0; out = 0; value = false } ∷ [];
  outs = 1;
}

-- a source of the item 7, and `view`, which reads it
abbrev pub viewed_nodes : List Node
viewed_nodes = record { kind = k.Source (int (pos 7) ∷ []); ports = []; outs = 1 } ∷ view_node ∷ []

-- a process without ports, and `view`, which reads it
abbrev pub task_nodes : List Node
task_nodes = record { kind = k.Process None; ports = []; outs = 1 } ∷ view_node ∷ []
