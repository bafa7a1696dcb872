use Rattle.std.proofs.Common.{◌≡◌, ◌+◌, count_by, ap, ◌∙◌, subst, arith}
use Rattle.std.specs.Prelude.{Some, unwrap_or}
use Rattle.std.specs.BTreeMap.{get, Updates}
use Rattle.nf_value.specs.declared.value.Value.TheVariants as v
use Rattle.nf_graph.specs.Meaning.{same_inputs}
use Rattle.nf_spot.specs.Counts.{by_order}
use Rattle.nf_spot.proofs.Counting.{counted, count_small}
use Rattle.nf_spot.proofs.counts.Counts.add.Goals as goal

pub returns-clause-number : goal.returns-clause-number
returns-clause-number c taken h =
    let a : c.unwrap_or-before.result ≡ unwrap_or (get by_order c.args.self.now.counts (v.List c.in_ok-copy.field-0)) 0 = c.unwrap_or-before.ensures ∙ ap (λ o. unwrap_or o 0) (c.copied.ensures ∙ c.get.ensures.value) in
    a ∙ ap (λ z. unwrap_or (get by_order c.args.self.now.counts (v.List z)) 0) c.in_ok-copy.ensures ∙ h.each c.args.inputs.now

pub returns-clause-after : goal.returns-clause-after
returns-clause-after c taken h =
    let number : c.unwrap_or-before.result ≡ count_by (same_inputs c.args.inputs.now) taken = returns-clause-number c taken h in
    let more : c.saturating_add.result ≡ c.unwrap_or-before.result + 1 = (let s = count_small c.args.inputs.now taken c.unwrap_or-before.result c.args.self.now.total number h.total c.requires in omega arith) in
    let there : Updates by_order c.args.self.now.counts c.insert.new.self (v.List c.args.inputs.now) (Some c.saturating_add.result) = subst (λ z. Updates by_order c.args.self.now.counts c.insert.new.self (v.List z) (Some c.saturating_add.result)) c.in_ok-copy.ensures c.in_ok-insert.ensures.updates in
    record {
      total = (let e = h.total in omega arith);
      each = counted c.args.self.now.counts c.insert.new.self c.args.inputs.now taken c.unwrap_or-before.result c.saturating_add.result h.each number more there;
    }
