-- The graph of the tests is one.
use Rattle.std.proofs.Common.{◌≡◌, ℕ, zero, suc, ◌<◌, ◌≤◌, List, [], ◌∷◌, length, true, refl, subst, sym, arith}
use Rattle.std.specs.Prelude.{None}
use Rattle.nf_graph.specs.declared.port.Port.{Port}
use Rattle.nf_graph.specs.declared.node.Node.{Node}
use Rattle.nf_graph.specs.declared.node.NodeKind.TheVariants as k
use Rattle.nf_graph.specs.Node.{port_in}
use Rattle.nf_graph.specs.WellMade.{FitsKind, IsWellMade, ReadsEarlier, node_in}

abbrev pub port : Port
port = record { from = 0; out = 0; value = true }

abbrev pub source : Node
source = record { kind = k.Source []; ports = []; outs = 1 }

abbrev pub process : Node
process = record { kind = k.Process None; ports = port ∷ port ∷ []; outs = 0 }

abbrev pub both : List Node
both = source ∷ process ∷ []

values : (k : ℕ) → k < 2 → (port_in (port ∷ port ∷ []) k).value ≡ true
values zero l = refl
values (suc zero) l = refl
values (suc (suc k)) l = absurd (omega arith)

fits : (i : ℕ) → FitsKind (node_in both i) (node_in both i).kind
fits zero = refl
fits (suc zero) = values
fits (suc (suc i)) = refl

one_read : ReadsEarlier both 1 port
one_read = record { earlier = omega arith; out = omega arith; value = λ e. omega arith }

reads : (i k : ℕ) → k < length (node_in both i).ports → ReadsEarlier both i (port_in (node_in both i).ports k)
reads zero k l = absurd (omega arith)
reads (suc zero) zero l = one_read
reads (suc zero) (suc zero) l = one_read
reads (suc zero) (suc (suc k)) l = absurd (omega arith)
reads (suc (suc i)) k l = absurd (omega arith)

pub well_made : (nodes : List Node) → nodes ≡ both → IsWellMade nodes
well_made nodes e = subst IsWellMade (sym e) (record { few_nodes = omega arith; few_ports = omega arith; kinds = fits; reads = reads })
