use Rattle.std.proofs.Common.{◌≡◌, length, arith, rules, sym, ap, ◌∙◌, min}
use Rattle.std.specs.Ordering.{nat_cmp}
use Rattle.nf_value.specs.Plain.{plains_of, plain_pairs_of}
use Rattle.nf_value.specs.Order.{items_cmp, pairs_cmp}
use Rattle.nf_value.proofs.Loops.{rest, ended, further, ends, rest_p, ended_p, further_p, ends_p}
use Rattle.nf_value.proofs.order.+order.Goals as goal

pub compare_all-returns-in_default : goal.compare_all-returns-in_default
compare_all-returns-in_default t c =
    let xs = c.a.inside.items.items in
    let ys = c.b.inside.items.items in
    let e = ended xs ys c.loop-i.i c.index.result.now c.index-in-loop-i.result.now c.compare.result (search rules) (search rules) c.index.ensures c.index-in-loop-i.ensures c.compare.ensures (λ e. c.in_default.not-Equal (search rules)) in
    sym e ∙ c.loop-i.invariant ∙ (λ j. items_cmp (plains_of (c.a.view_is j)) (plains_of (c.b.view_is j)))

pub compare_all-loop-i-preserved : goal.compare_all-loop-i-preserved
compare_all-loop-i-preserved t c =
    let xs = c.a.inside.items.items in
    let ys = c.b.inside.items.items in
    further xs ys c.loop-i.i c.index.result.now c.index-in-loop-i.result.now c.compare.result (search rules) (search rules) c.index.ensures c.index-in-loop-i.ensures c.compare.ensures (search rules) ∙ c.loop-i.invariant

pub compare_all-returns : goal.compare_all-returns
compare_all-returns t c =
    let xs = c.a.inside.items.items in
    let ys = c.b.inside.items.items in
    let last : c.loop-i.i ≡ min (length xs) (length ys) = omega arith in
    let a : c.len-3.result ≡ length xs = omega arith in
    let b : c.len-4.result ≡ length ys = omega arith in
    c.cmp.ensures ∙ (λ j. nat_cmp (a j) (b j)) ∙ sym (ends xs ys) ∙ ap (rest xs ys) (sym last) ∙ c.loop-i.invariant
    ∙ (λ j. items_cmp (plains_of (c.a.view_is j)) (plains_of (c.b.view_is j)))

pub compare_pairs-returns-in_default : goal.compare_pairs-returns-in_default
compare_pairs-returns-in_default t c =
    let xs = c.a.inside.items.items in
    let ys = c.b.inside.items.items in
    let e = ended_p xs ys c.loop-i.i c.index.result.now c.index-in-loop-i.result.now c.compare_pair.result (search rules) (search rules) c.index.ensures c.index-in-loop-i.ensures c.compare_pair.ensures (λ e. c.in_default.not-Equal (search rules)) in
    sym e ∙ c.loop-i.invariant ∙ (λ j. pairs_cmp (plain_pairs_of (c.a.view_is j)) (plain_pairs_of (c.b.view_is j)))

pub compare_pairs-loop-i-preserved : goal.compare_pairs-loop-i-preserved
compare_pairs-loop-i-preserved t c =
    let xs = c.a.inside.items.items in
    let ys = c.b.inside.items.items in
    further_p xs ys c.loop-i.i c.index.result.now c.index-in-loop-i.result.now c.compare_pair.result (search rules) (search rules) c.index.ensures c.index-in-loop-i.ensures c.compare_pair.ensures (search rules) ∙ c.loop-i.invariant

pub compare_pairs-returns : goal.compare_pairs-returns
compare_pairs-returns t c =
    let xs = c.a.inside.items.items in
    let ys = c.b.inside.items.items in
    let last : c.loop-i.i ≡ min (length xs) (length ys) = omega arith in
    let a : c.len-3.result ≡ length xs = omega arith in
    let b : c.len-4.result ≡ length ys = omega arith in
    c.cmp.ensures ∙ (λ j. nat_cmp (a j) (b j)) ∙ sym (ends_p xs ys) ∙ ap (rest_p xs ys) (sym last) ∙ c.loop-i.invariant
    ∙ (λ j. pairs_cmp (plain_pairs_of (c.a.view_is j)) (plain_pairs_of (c.b.view_is j)))
