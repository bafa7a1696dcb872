use Rattle.std.proofs.Common.{◌≡◌, ◌≢◌, map, arith, rules, refl, w64, to_z, of_z, ap, sym, ◌∙◌}
use Rattle.nf_value.specs.Plain.{int}
use Rattle.nf_builtins.specs.Lists.{list_of}
use Rattle.nf_texts.specs.Outcome.{limited}
use Rattle.nf_infix.specs.Range.{further, numbers_to}
use Rattle.nf_infix.proofs.Stepping.{falls, started, heavier, last_made, made_more, too_many}
use Rattle.nf_infix.proofs.ranges.numbers.Goals as goal

pub loop-number-init : goal.loop-number-init
loop-number-init c = record {
  made = started c.new-numbers.result.items c.push.new.self.items _ (to_z w64 (of_z w64 c.args.first)) (to_z w64 (of_z w64 c.args.last)) c.new-numbers.ensures.items c.in_ok-push.ensures.items (search rules);
  weighed = omega arith;
}

pub returns-then-sum-gt-MOST_WEIGHT : goal.returns-then-sum-gt-MOST_WEIGHT
returns-then-sum-gt-MOST_WEIGHT c =
    let first : to_z w64 (of_z w64 c.args.first) ≡ c.args.first = search rules in
    let last : to_z w64 (of_z w64 c.args.last) ≡ c.args.last = search rules in
    sym (λ i. limited (list_of (map int (numbers_to (first i) (last i)))))
    ∙ too_many c.loop-number.numbers.items (map int (further (to_z w64 c.loop-number.number-bits) (to_z w64 (of_z w64 c.args.last)))) (map int (numbers_to (to_z w64 (of_z w64 c.args.first)) (to_z w64 (of_z w64 c.args.last)))) c.loop-number.sum c.loop-number.invariant.weighed c.if-sum-gt-MOST_WEIGHT.true c.loop-number.invariant.made

pub loop-number-smaller : goal.loop-number-smaller
loop-number-smaller c =
    let apart : c.loop-number.number ≢ c.args.last = search rules in
    let last : to_z w64 (of_z w64 c.args.last) ≡ c.args.last = search rules in
    let next : to_z w64 (of_z w64 c.next_to-number.result) ≡ c.next_to-number.result = search rules in
    falls (to_z w64 c.loop-number.number-bits) (to_z w64 (of_z w64 c.args.last)) (to_z w64 (of_z w64 c.next_to-number.result)) (λ e. apart (sym c.loop-number.number-is ∙ e ∙ last)) (next ∙ c.next_to-number.ensures)

pub loop-number-preserved : goal.loop-number-preserved
loop-number-preserved c =
    let apart : c.loop-number.number ≢ c.args.last = search rules in
    let last : to_z w64 (of_z w64 c.args.last) ≡ c.args.last = search rules in
    let next : to_z w64 (of_z w64 c.next_to-number.result) ≡ c.next_to-number.result = search rules in
    record {
      made = made_more c.loop-number.numbers.items c.push-in-loop-number.new.self.items (to_z w64 c.loop-number.number-bits) (to_z w64 (of_z w64 c.args.last)) (to_z w64 (of_z w64 c.next_to-number.result)) _ _ (λ e. apart (sym c.loop-number.number-is ∙ e ∙ last)) (next ∙ c.next_to-number.ensures) refl c.in_ok-push-2.ensures.items c.loop-number.invariant.made;
      weighed = heavier c.loop-number.numbers.items c.push-in-loop-number.new.self.items _ c.loop-number.sum c.weight-sum.result c.in_ok-push-2.ensures.items c.weight-sum.ensures c.loop-number.invariant.weighed;
    }

pub returns : goal.returns
returns c =
    let first : to_z w64 (of_z w64 c.args.first) ≡ c.args.first = search rules in
    let last : to_z w64 (of_z w64 c.args.last) ≡ c.args.last = search rules in
    c.of.ensures ∙ last_made c.loop-number.numbers.items (to_z w64 c.loop-number.number-bits) (to_z w64 (of_z w64 c.args.last)) _ (ap (to_z w64) c.loop-number-test.false) c.loop-number.invariant.made ∙ (λ i. map int (numbers_to (first i) (last i)))
