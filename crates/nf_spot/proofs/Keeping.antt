-- What a node keeps by its kind.
use Rattle.std.proofs.Common.{◌≡◌, ℕ, ◌+◌, ◌<◌, List, [], map, length, false, ap, sym, ◌∙◌, subst, arith}
use Rattle.std.proofs.lemmas.List.{length-map}
use Rattle.std.proofs.lemmas.Bool.{true≢false}
use Rattle.std.specs.Prelude.{Option, Some, None, Result, Ok, Err, OnOk, IfSome}
use Rattle.std.specs.Global.{Vec}
use Rattle.nf_value.specs.declared.value.Value.{Value}
use Rattle.nf_bag.specs.declared.fault.OpFault.{OpFault}
use Rattle.nf_bag.specs.declared.rows.Row.{Row}
use Rattle.nf_bag.specs.declared.options.OpOpts.{OpOpts}
use Rattle.nf_opstream.specs.Push.{Push}
use Rattle.nf_opstream.specs.Fault.{fault_of}
use Rattle.nf_opstream.specs.Promise.{emits_of, HasFaulted, HasBroken}
use Rattle.nf_operator.specs.Row.{operator_of}
use Rattle.nf_operator.specs.State.{IsAfter, IsNext, Gives, Ends, HasRoom}
use Rattle.nf_operator.specs.declared.state.OpState.{OpState}
use Rattle.nf_graph.specs.declared.node.Node.{Node}
use Rattle.nf_graph.specs.declared.node.NodeKind.{NodeKind}
use Rattle.nf_graph.specs.declared.node.NodeKind.TheVariants as k
use Rattle.nf_graph.specs.WellMade.{plain_kind}
use Rattle.nf_machine.specs.State.{Take, Spot}
use Rattle.nf_machine.specs.Legal.{IsOperatorKind}
use Rattle.nf_spot.specs.Counts.{IsCounts, total_of}
use Rattle.nf_spot.specs.declared.counts.Counts.{Counts}
use Rattle.nf_spot.specs.Spot.{IsKept, PushesOn, ClosesOn, HasPushRoom, HasKeptRoom, HasCountRoom, inputs_taken}
use Rattle.nf_spot.specs.declared.kept.Kept.{Kept}
use Rattle.nf_spot.specs.declared.kept.Kept.TheVariants as kept

-- a fact of a node whose kind is known
pub by_kind : (n : Node) (kind : NodeKind) → n.kind ≡ kind → (P : Node → Type 0) → P (record { kind = kind; ports = n.ports; outs = n.outs }) → P n
by_kind n kind e P h = subst (λ q. P (record { kind = q; ports = n.ports; outs = n.outs })) (sym e) h

pub to_kind : (n : Node) (kind : NodeKind) → n.kind ≡ kind → (P : Node → Type 0) → P n → P (record { kind = kind; ports = n.ports; outs = n.outs })
to_kind n kind e P h = subst (λ q. P (record { kind = q; ports = n.ports; outs = n.outs })) e h

-- what is kept says nothing of the ports and the outputs
pub kept_same : (kind : NodeKind) (sp new : Spot) (c : Kept) → new.closed ≡ sp.closed → new.pushed ≡ sp.pushed → new.taken ≡ sp.taken → IsKept kind sp c → IsKept kind new c
kept_same (k.Source items) sp new c cl pu ta h = h
kept_same (k.Op row opts) sp new kept.Source cl pu ta h = h
kept_same (k.Op row opts) sp new (kept.Operator s) cl pu ta h = λ open_now. subst (λ p. IsAfter row opts p s) (sym pu) (h (sym cl ∙ open_now))
kept_same (k.Op row opts) sp new (kept.Process c) cl pu ta h = h
kept_same (k.Process queue) sp new kept.Source cl pu ta h = h
kept_same (k.Process queue) sp new (kept.Operator s) cl pu ta h = h
kept_same (k.Process queue) sp new (kept.Process c) cl pu ta h = subst (λ t. IsCounts (map (λ (u : Take). u.inputs) t) c) (sym ta) h

-- what an operator keeps says nothing of what was taken
pub kept_by_operator : (row : Row) (opts : OpOpts) (sp new : Spot) (c : Kept) → new.closed ≡ sp.closed → new.pushed ≡ sp.pushed → IsKept (k.Op row opts) sp c → IsKept (k.Op row opts) new c
kept_by_operator row opts sp new kept.Source cl pu h = h
kept_by_operator row opts sp new (kept.Operator s) cl pu h = λ open_now. subst (λ p. IsAfter row opts p s) (sym pu) (h (sym cl ∙ open_now))
kept_by_operator row opts sp new (kept.Process c) cl pu h = h

some_map : {T : Type 0} (o : Option T) (P Q : T → Type 0) → ((g : T) → P g → Q g) → IfSome o P → IfSome o Q
some_map None P Q f h = h
some_map (Some g) P Q f h = f g h

-- an operator's state after a push
pub pushed : (kind : NodeKind) (sp : Spot) (s new : OpState) (x : Push) (r : Result (Vec (ℕ × Value)) OpFault) → Gives s x r → OnOk r (IsNext s x new) → IsKept kind sp (kept.Operator s) → sp.closed ≡ false
    → PushesOn kind sp x r (kept.Operator new)
pushed (k.Source items) sp s new x r gives next h c = absurd h
pushed (k.Op row opts) sp s new x (Ok es) gives next h c = ((gives row opts sp.pushed (h c)).gives, λ still. next row opts sp.pushed (h c))
pushed (k.Op row opts) sp s new x (Err e) gives next h c = some_map (fault_of e) (HasFaulted (operator_of row opts) sp.pushed x) (λ g. (operator_of row opts).gives sp.pushed x ≡ Err g) (λ g w. w.gives) (gives row opts sp.pushed (h c))
pushed (k.Process queue) sp s new x r gives next h c = absurd h

-- what the close of a node gives
pub closed : (kind : NodeKind) (sp : Spot) (s new : OpState) (r : Result (Vec (ℕ × Value)) OpFault) → Ends s r → IsKept kind sp (kept.Operator s) → sp.closed ≡ false → ClosesOn kind sp r (kept.Operator new)
closed (k.Source items) sp s new r ends h c = absurd h
closed (k.Op row opts) sp s new (Ok es) ends h c = ((ends row opts sp.pushed (h c)).ends, λ e. absurd (true≢false e))
closed (k.Op row opts) sp s new (Err e) ends h c = some_map (fault_of e) (HasBroken (operator_of row opts) sp.pushed) (λ g. (operator_of row opts).ends sp.pushed ≡ Err g) (λ g w. w.ends) (ends row opts sp.pushed (h c))
closed (k.Process queue) sp s new r ends h c = absurd h

pub closed_source : (kind : NodeKind) (sp : Spot) (es : Vec (ℕ × Value)) → es.items ≡ [] → IsKept kind sp kept.Source → ClosesOn kind sp (Ok es) kept.Source
closed_source (k.Source items) sp es e h = (ap (λ z. Ok (emits_of z)) (sym e), h)
closed_source (k.Op row opts) sp es e h = absurd h
closed_source (k.Process queue) sp es e h = absurd h

pub closed_process : (kind : NodeKind) (sp : Spot) (c : Counts) (es : Vec (ℕ × Value)) → es.items ≡ [] → IsKept kind sp (kept.Process c) → ClosesOn kind sp (Ok es) (kept.Process c)
closed_process (k.Source items) sp c es e h = absurd h
closed_process (k.Op row opts) sp c es e h = absurd h
closed_process (k.Process queue) sp c es e h = (ap (λ z. Ok (emits_of z)) (sym e), h)

-- room for one more
pub may_push : (kind : NodeKind) (sp : Spot) (c : Kept) → ((row : Row) (opts : OpOpts) (p : List Push) (s : OpState) → IsAfter row opts p s → length p < 4294967296 → HasRoom s)
    → IsKept kind sp c → IsOperatorKind (plain_kind kind) → sp.closed ≡ false → length sp.pushed < 4294967296 → HasPushRoom c
may_push (k.Source items) sp c room h o cl l = absurd o
may_push (k.Op row opts) sp kept.Source room h o cl l = absurd h
may_push (k.Op row opts) sp (kept.Operator s) room h o cl l = room row opts sp.pushed s (h cl) l
may_push (k.Op row opts) sp (kept.Process c) room h o cl l = absurd h
may_push (k.Process queue) sp c room h o cl l = absurd o

pub may_count : (kind : NodeKind) (sp : Spot) (c : Kept) → IsKept kind sp c → length sp.taken + 1 < 4294967296 → HasKeptRoom c
may_count (k.Source items) sp kept.Source h l = tt
may_count (k.Source items) sp (kept.Operator s) h l = absurd h
may_count (k.Source items) sp (kept.Process c) h l = absurd h
may_count (k.Op row opts) sp kept.Source h l = absurd h
may_count (k.Op row opts) sp (kept.Operator s) h l = tt
may_count (k.Op row opts) sp (kept.Process c) h l = absurd h
may_count (k.Process queue) sp kept.Source h l = absurd h
may_count (k.Process queue) sp (kept.Operator s) h l = absurd h
may_count (k.Process queue) sp (kept.Process c) h l = (let e : total_of c ≡ length (inputs_taken sp) = h.total in let f = length-map sp.taken (λ (t : Take). t.inputs) in omega arith)

-- a process counts
pub counts_on : (queue : Option ℕ) (sp : Spot) (c : Kept) → HasKeptRoom c → IsKept (k.Process queue) sp c → HasCountRoom c
counts_on queue sp kept.Source l h = absurd h
counts_on queue sp (kept.Operator s) l h = absurd h
counts_on queue sp (kept.Process c) l h = l
