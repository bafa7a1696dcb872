use Rattle.std.proofs.Common.{◌≡◌, ◌+◌, ◌-◌, [], ◌∷◌, ◌++◌, map, length, take, drop, ap, sym, ◌∙◌}
use Rattle.std.proofs.lemmas.List.{map-append, take_rest}
use Rattle.nf_value.specs.View.{plain_of}
use Rattle.nf_spot.specs.Heads.{head_of, inputs_at}
use Rattle.nf_spot.proofs.Heads.{gathered}
use Rattle.nf_spot.proofs.node_state.NodeState.take_inputs.Goals as goal

pub returns-clause-inputs : goal.returns-clause-inputs
returns-clause-inputs c =
    let port = c.in-Some.port in
    let ports = c.args.self.now.inlets.items in
    let first : map plain_of c.put_heads-2.new.inputs.items ≡ map plain_of c.new-inputs.result.items ++ map head_of (take port c.deref-2.result.now) = c.in_ok-put_heads-2.ensures in
    let second : map plain_of c.put_heads-3.new.inputs.items ≡ map plain_of c.push.new.self.items ++ map head_of (take (length c.deref-3.result.now - (port + 1)) (drop (port + 1) c.deref-3.result.now)) = c.in_ok-put_heads-3.ensures in
    let before : map plain_of c.put_heads-2.new.inputs.items ≡ map head_of (take port ports) = first ∙ (λ i. map plain_of (c.new-inputs.ensures.items i) ++ map head_of (take port (c.deref-2.ensures.value i))) in
    let with_item : map plain_of c.push.new.self.items ≡ map plain_of c.put_heads-2.new.inputs.items ++ plain_of c.remove.result ∷ [] = ap (map plain_of) c.in_ok-push.ensures.items ∙ map-append plain_of c.put_heads-2.new.inputs.items (c.remove.result ∷ []) in
    let all : c.of-2.result ≡ (map plain_of c.put_heads-2.new.inputs.items ++ plain_of c.remove.result ∷ []) ++ map head_of (drop (port + 1) c.remove.new.self.inlets.items) =
    c.of-2.ensures ∙ second ∙ (λ i. with_item i ++ map head_of (take_rest c.deref-3.result.now (port + 1) i)) ∙ ap (λ xs. (map plain_of c.put_heads-2.new.inputs.items ++ plain_of c.remove.result ∷ []) ++ map head_of (drop (port + 1) xs)) c.deref-3.ensures.value in
    gathered ports c.remove.new.self.inlets.items port c.args.place _ (map plain_of c.put_heads-2.new.inputs.items) c.of-2.result (plain_of c.remove.result) before c.remove.ensures.item c.remove.ensures.inlets all
    ∙ ap (λ o. inputs_at ports o c.args.place) (sym c.in-Some.is)
