-- The nodes of a graph in memory make a graph.
use Rattle.std.proofs.Common.{◌≡◌, ℕ, zero, suc, ◌<◌, List, [], ◌∷◌, length, Bool, true, false, refl, sym, ◌∙◌, subst, arith, ◌⊎◌, inl, inr}
use Rattle.std.specs.Prelude.{◌==◌, nat_le, cond}
use Rattle.std.specs.declared.option.Option.TheVariants.{None, Some}
use Rattle.std.proofs.lemmas.Bool.Decides.{nat_tests}
use Rattle.nf_value.specs.Plain.{Plain}
use Rattle.nf_bag.specs.Options.{Allows}
use Rattle.nf_bag.specs.declared.rows.Row.{Row}
use Rattle.nf_bag.specs.declared.rows.Row.TheVariants.{Concat, Mix}
use Rattle.nf_bag.specs.declared.options.OpOpts.{OpOpts}
use Rattle.nf_operator.specs.Operator.{Operator, IsOperator}
use Rattle.nf_operator.specs.declared.kinds.OutputKind.{OutputKind}
use Rattle.nf_operator.specs.declared.kinds.OutputKind.TheVariants as output
use Rattle.nf_operator.specs.Row.{operator_of, ports_of, takes_more, takes_ports, output_kind}
use Rattle.nf_operator.specs.Outputs.{KeepsOne, IsOfKind}
use Rattle.nf_graph.specs.declared.node.Node.{Node}
use Rattle.nf_graph.specs.declared.node.NodeKind.{NodeKind}
use Rattle.nf_graph.specs.declared.node.NodeKind.TheVariants as k
use Rattle.nf_graph.specs.Node.{source, operator, process, PlainNode, port_in, port_at, node_at, AllValues, GivesValues, IsQueue, IsGraph}
use Rattle.nf_graph.specs.WellMade.{plain_kind, plain_node, plain_graph, node_in, FitsRow, FitsKind, OpGivesValues, IsValueSource, IsWellMade}

plain_at : (nodes : List Node) (i : ℕ) → node_at (plain_graph nodes) i ≡ plain_node (node_in nodes i)
plain_at [] i = refl
plain_at (n ∷ nodes) zero = refl
plain_at (n ∷ nodes) (suc i) = plain_at nodes i

source_bare : (n : Node) (items : List Plain) (kind : NodeKind) → FitsKind n kind → plain_kind kind ≡ source items → n.ports ≡ []
source_bare n items (k.Source xs) f e = f
source_bare n items (k.Op row opts) f e = absurd cc
source_bare n items (k.Process None) f e = absurd cc
source_bare n items (k.Process (Some q)) f e = absurd cc

queue_is : (n : Node) (q : ℕ) (kind : NodeKind) → FitsKind n kind → plain_kind kind ≡ process (Some q) → IsQueue (plain_node n) q
queue_is n q (k.Source xs) f e = absurd cc
queue_is n q (k.Op row opts) f e = absurd cc
queue_is n q (k.Process None) f e = absurd cc
queue_is n q (k.Process (Some z)) f e = let same : z ≡ q = cc in subst (IsQueue (plain_node n)) same f

no_queue_is : (n : Node) (kind : NodeKind) → FitsKind n kind → plain_kind kind ≡ process None → AllValues (plain_node n)
no_queue_is n (k.Source xs) f e = absurd cc
no_queue_is n (k.Op row opts) f e = absurd cc
no_queue_is n (k.Process None) f e = f
no_queue_is n (k.Process (Some z)) f e = absurd cc

-- only rows that give a queue take further ports
fixed_or_queue : (row : Row) → (takes_more row ≡ false) ⊎ (output_kind row ≡ output.Queue)
fixed_or_queue Concat = inr refl
fixed_or_queue Mix = inr refl
fixed_or_queue _ = inl refl

ports_fixed : (row : Row) (n : ℕ) (b : Bool) → takes_more row ≡ b → b ≡ false → takes_ports row n ≡ true → ports_of row ≡ n
ports_fixed row n true t f h = absurd cc
ports_fixed row n false t f h = let e : cond (takes_more row) (nat_le (ports_of row) n) (n == ports_of row) ≡ true = h in let d : (n == ports_of row) ≡ true = (rw t at e) in grind (arith, nat_tests)

module _ (laws : (row : Row) (opts : OpOpts) → Allows row opts → IsOperator (operator_of row opts)) (kinds : (row : Row) (opts : OpOpts) → IsOfKind (output_kind row) (ports_of row) (operator_of row opts)) where
  operator_is : (n : Node) (op : Operator) (kind : NodeKind) → FitsKind n kind → plain_kind kind ≡ operator op → IsOperator op
  operator_is n op (k.Source xs) f e = absurd cc
  operator_is n op (k.Op row opts) f e = let same : operator_of row opts ≡ op = cc in subst IsOperator same (laws row opts f.options)
  operator_is n op (k.Process None) f e = absurd cc
  operator_is n op (k.Process (Some z)) f e = absurd cc

  op_gives : (n : Node) (row : Row) (opts : OpOpts) (o : OutputKind) → output_kind row ≡ o → FitsRow row opts n → IsOfKind o (ports_of row) (operator_of row opts) → OpGivesValues o n → GivesValues (plain_node n) (operator (operator_of row opts))
  op_gives n row opts output.Value e f w v = inl w
  op_gives n row opts output.Queue e f w v = absurd v
  op_gives n row opts output.AsInputs e f w v = elim (fixed_or_queue row) [
    | inl t ↦ inr (subst (λ m. KeepsOne m (operator_of row opts)) (ports_fixed row (length n.ports) (takes_more row) refl t f.ports) w, v)
    | inr q ↦ absurd (let z : output.Queue ≡ output.AsInputs = sym q ∙ e in cc)
  ]

  gives : (n : Node) (kind : NodeKind) → FitsKind n kind → IsValueSource n kind → GivesValues (plain_node n) (plain_kind kind)
  gives n (k.Source xs) f v = v
  gives n (k.Op row opts) f v = op_gives n row opts (output_kind row) refl f (kinds row opts) v
  gives n (k.Process None) f v = tt
  gives n (k.Process (Some z)) f v = v

  pub graph_of_nodes : (nodes : List Node) → IsWellMade nodes → IsGraph (plain_graph nodes)
  graph_of_nodes nodes h = record {
    earlier = λ i. subst (λ (n : PlainNode). (k : ℕ) → k < length n.ports → (port_at n k).from < i) (sym (plain_at nodes i)) (λ k l. (h.reads i k l).earlier);
    no_ports = λ i items. subst (λ (n : PlainNode). n.kind ≡ source items → n.ports ≡ []) (sym (plain_at nodes i)) (source_bare (node_in nodes i) items (node_in nodes i).kind (h.kinds i));
    queues = λ i q. subst (λ (n : PlainNode). n.kind ≡ process (Some q) → IsQueue n q) (sym (plain_at nodes i)) (queue_is (node_in nodes i) q (node_in nodes i).kind (h.kinds i));
    no_queue = λ i. subst (λ (n : PlainNode). n.kind ≡ process None → AllValues n) (sym (plain_at nodes i)) (no_queue_is (node_in nodes i) (node_in nodes i).kind (h.kinds i));
    operators = λ i op. subst (λ (n : PlainNode). n.kind ≡ operator op → IsOperator op) (sym (plain_at nodes i)) (operator_is (node_in nodes i) op (node_in nodes i).kind (h.kinds i));
    values = λ i. subst (λ (n : PlainNode). (k : ℕ) → k < length n.ports → (port_at n k).value ≡ true → GivesValues (node_at (plain_graph nodes) (port_at n k).from) (node_at (plain_graph nodes) (port_at n k).from).kind) (sym (plain_at nodes i))
        (λ k l s. (let p = port_in (node_in nodes i).ports k in
        subst (λ (n : PlainNode). GivesValues n n.kind) (sym (plain_at nodes p.from)) (gives (node_in nodes p.from) (node_in nodes p.from).kind (h.kinds p.from) ((h.reads i k l).value s))));
  }
