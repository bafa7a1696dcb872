use Rattle.std.proofs.Common.{take, sym, subst, arith}
use Rattle.nf_known.specs.Patterns.{HasTexts}
use Rattle.nf_meaning.specs.Functions as spec
use Rattle.nf_library.specs.Stages.{defined_by}
use Rattle.nf_library.proofs.Staged.{names_all, names_more}
use Rattle.nf_library.proofs.Sets.{one_last}
use Rattle.nf_library.proofs.order.names_of.Goals as goal

pub loop-one-preserved : goal.loop-one-preserved
loop-one-preserved c =
    let all = c.args.all.now in
    let i = c.loop-one.one-index in
    let x = c.one-item.result in
    subst (HasTexts c.add_key.new.set.keys) (sym (names_more all i x c.loop-one-test.true c.one-item.is))
    (one_last x.function.now.name c.loop-one.names.keys c.add_key.new.set.keys (spec.names_of (defined_by (take i all))) c.loop-one.invariant c.in_ok-add_key.ensures)

pub returns : goal.returns
returns c = subst (HasTexts c.loop-one.names.keys) (names_all c.args.all.now c.loop-one.one-index (omega arith)) c.loop-one.invariant
