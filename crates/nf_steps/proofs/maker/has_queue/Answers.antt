use Rattle.std.proofs.Common.{◌+◌, ap, rules, sym, ◌∙◌}
use Rattle.std.specs.List.{list_all}
use Rattle.nf_graph.specs.declared.port.Port.{Port}
use Rattle.nf_steps.proofs.Making.{only_queue, queue_read, tail_whole}
use Rattle.nf_steps.proofs.maker.has_queue.Goals as goal

pub returns : goal.returns
returns c h =
    let ports = c.args.ports.now in let q = c.args.queue in let l = c.if-at-ports.false in
    only_queue ports q l (queue_read ports q c.port_at.result c.port_at.ensures (search rules)) (sym c.if-not-are_values.ensures) (ap (list_all (λ (p : Port). p.value)) (sym (tail_whole ports (q + 1))) ∙ sym c.are_values-2.ensures ∙ h)
