-- What a graph means under rules and outcomes, with no item in motion: the bag of each output, node by node.
use Rattle.std.specs.Prelude.{ℕ, zero, suc, ◌+◌, ◌^◌, ◌==◌, List, [], ◌∷◌, ◌++◌, Bool, true, false, cond, if◌then◌else◌, get_or, length, map, min, count_by, sum_by, Result, Ok, Err}
use Rattle.std.specs.declared.option.Option.{Option}
use Rattle.std.specs.declared.option.Option.TheVariants.{None, Some}
use Rattle.std.specs.List.{flat_map}
use Rattle.std.specs.Ordering.{eq_by_cmp}
use Rattle.std.specs.Cmp.Lexicographic.{pointwise}
use Rattle.nf_value.specs.Plain.{Plain, null}
use Rattle.nf_value.specs.Order.{value_cmp}
use Rattle.nf_value.specs.Code.{code}
use Rattle.nf_value.specs.declared.fault.EvalFault.{EvalFault}
use Rattle.nf_operator.specs.Push.{Push, push_of}
use Rattle.nf_operator.specs.Answer.{printed as printed_of}
use Rattle.nf_job.specs.declared.report.Report.{Report}
use Rattle.nf_graph.specs.declared.port.Port.{Port}
use Rattle.nf_graph.specs.Rules.{Rules, Outs, decided, emitted_by}
use Rattle.nf_graph.specs.Node.{Kind, source, operator, process, PlainNode, port_in, port_at, node_at}

-- for each instance (a process's place, its inputs and their number) the reports of its attempts
abbrev pub Outcomes : Type 0
Outcomes = ℕ → List Plain → ℕ → List Report

-- the bag of each output of each node
abbrev pub Bags : Type 0
Bags = ℕ → ℕ → List Plain

-- f with x at i
abbrev pub put : {A : Type 0} → (ℕ → A) → ℕ → A → ℕ → A
put f i x j = if j == i then x else f j

-- ---- what comes to a node

abbrev pub bag_of : Bags → Port → List Plain
bag_of bags p = bags p.from p.out

-- the items that come to the ports from place k on, each with its port
abbrev pub delivered : Bags → ℕ → List Port → List (ℕ × Plain)
delivered bags k [] = []
delivered bags k (p ∷ ps) = map (λ x. (k, x)) (bag_of bags p) ++ delivered bags (suc k) ps

abbrev pub deliveries : Bags → PlainNode → List (ℕ × Plain)
deliveries bags node = delivered bags 0 node.ports

-- an item is pushed with its answer; an item whose answer is a fault isn't pushed
abbrev pub answered : ℕ → Plain → Result Plain EvalFault → List Push
answered k x (Ok a) = push_of k x a ∷ []
answered k x (Err f) = []

abbrev pub pushes : Rules → ℕ → List (ℕ × Plain) → List Push
pushes R i items = flat_map (λ d. answered d.0 d.1 (R.answer i d.1)) items

-- ---- the instances of a process

abbrev pub same_inputs : List Plain → List Plain → Bool
same_inputs = pointwise (eq_by_cmp value_cmp)

-- the first item of each port's bag
abbrev pub bag_heads : Bags → List Port → ℕ → Plain
bag_heads bags ports k = get_or (bag_of bags (port_in ports k)) 0 null

-- the inputs at the ports from place k on: the one item of each value port, and x at the queue port
abbrev pub filled : ℕ → List Port → (ℕ → Plain) → Plain → List Plain
filled k [] heads x = []
filled k (p ∷ ps) heads x = (if p.value then heads k else x) ∷ filled (suc k) ps heads x

abbrev pub input_of : Bags → PlainNode → Plain → List Plain
input_of bags node x = filled 0 node.ports (bag_heads bags node.ports) x

-- a value port gets nothing
abbrev pub is_lacking : Bags → List Port → Bool
is_lacking bags [] = false
is_lacking bags (p ∷ ps) = cond p.value (cond (length (bag_of bags p) == 0) true (is_lacking bags ps)) (is_lacking bags ps)

-- one list of inputs for each item at the queue port, or a single one without a queue port; none where a value port gets nothing
abbrev pub input_lists : Bags → PlainNode → Option ℕ → List (List Plain)
input_lists bags node None = cond (is_lacking bags node.ports) [] (input_of bags node null ∷ [])
input_lists bags node (Some q) = cond (is_lacking bags node.ports) [] (map (input_of bags node) (bag_of bags (port_at node q)))

-- each member with its number among its equals, which is how many of them stand behind it
abbrev pub numbered : {A : Type 0} → (A → A → Bool) → List A → List (A × ℕ)
numbered eq [] = []
numbered eq (x ∷ xs) = (x, count_by (eq x) xs) ∷ numbered eq xs

-- an instance: inputs and their number
abbrev pub Instance : Type 0
Instance = List Plain × ℕ

abbrev pub instances : Bags → PlainNode → Option ℕ → List Instance
instances bags node queue = numbered same_inputs (input_lists bags node queue)

-- what decides an instance under the outcomes
abbrev pub decided_under : Rules → Outcomes → ℕ → Instance → Option Outs
decided_under R o i z = decided (R.job i z.0 z.1) (R.outputs i z.0) 1 (o i z.0 z.1)

abbrev pub emits : Rules → Outcomes → ℕ → ℕ → Instance → List Plain
emits R o i out z = emitted_by (decided_under R o i z) out

-- ---- the bags

-- the bag of an output of node i, over the bags of the nodes before it
abbrev pub node_bag : Rules → Outcomes → Bags → ℕ → PlainNode → Kind → ℕ → List Plain
node_bag R o bags i node (source items) out = if out == 0 then items else []
node_bag R o bags i node (operator op) out = op.items (pushes R i (deliveries bags node)) out
node_bag R o bags i node (process queue) out = flat_map (emits R o i out) (instances bags node queue)

-- the bags of these nodes, the first of which stands at place i, after those before
abbrev pub bags_from : Rules → Outcomes → ℕ → List PlainNode → Bags → Bags
bags_from R o i [] bags = bags
bags_from R o i (node ∷ nodes) bags = bags_from R o (suc i) nodes (put bags i (node_bag R o bags i node node.kind))

-- the bags of a graph
abbrev pub bags : Rules → Outcomes → List PlainNode → Bags
bags R o g = bags_from R o 0 g (λ i out. [])

-- what is printed for an operator's node: the answers to what comes to it
abbrev pub printed : Rules → Outcomes → List PlainNode → ℕ → List Plain
printed R o g i = printed_of (pushes R i (deliveries (bags R o g) (node_at g i)))

-- ---- the charge

-- how many bytes the code of a value has, at most 2^63
unfoldable pub weight_of : Plain → ℕ
weight_of v = min (length (code v)) (2 ^ 63)

-- what one delivery costs
abbrev pub cost : Plain → ℕ
cost v = 64 + weight_of v

abbrev pub charge_to : Bags → List PlainNode → ℕ → ℕ
charge_to bags g zero = 0
charge_to bags g (suc i) = sum_by (λ d. cost d.1) (deliveries bags (node_at g i)) + charge_to bags g i

-- what all deliveries of the graph cost
abbrev pub charge_of : Rules → Outcomes → List PlainNode → ℕ
charge_of R o g = charge_to (bags R o g) g (length g)
