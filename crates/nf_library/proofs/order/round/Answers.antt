use Rattle.std.proofs.Common.{◌≡◌, ◌∙◌, ◌<◌, [], length, not, sym, ap, subst, rules}
use Rattle.std.proofs.lemmas.Bool.{false≢true}
use Rattle.std.proofs.lemmas.List.{nil_from_length}
use Rattle.std.specs.List.{filter}
use Rattle.nf_eval.specs.Memory.{definitions_of}
use Rattle.nf_library.specs.Calls.{is_ready}
use Rattle.nf_library.specs.Stages.{added, defined_by}
use Rattle.nf_library.proofs.Staged.{round_ends, round_falls, round_goes, wait_length}
use Rattle.nf_library.proofs.order.round.Goals as goal

pub returns-then-is_empty-clause-goes : goal.returns-then-is_empty-clause-goes
returns-then-is_empty-clause-goes c ds stage =
    let p = is_ready c.args.names.now.keys c.args.placed.now.keys in
    let left = defined_by c.args.left.now.items in
    let none : c.part_all.new.ready.items ≡ [] = nil_from_length c.part_all.new.ready.items (search rules) in
    let chosen : defined_by c.part_all.new.ready.items ≡ filter p left = search rules in
    round_ends ds c.args.names.now.keys c.args.placed.now.keys left c.args.library.now stage (sym chosen ∙ ap defined_by none)

pub returns-then-is_empty-clause-fewer : goal.returns-then-is_empty-clause-fewer
returns-then-is_empty-clause-fewer c is = absurd (false≢true is)

pub returns-clause-goes : goal.returns-clause-goes
returns-clause-goes c ds stage =
    let p = is_ready c.args.names.now.keys c.args.placed.now.keys in
    let left = defined_by c.args.left.now.items in
    let some : 0 < length c.part_all.new.ready.items = search rules in
    let chosen : defined_by c.part_all.new.ready.items ≡ filter p left = search rules in
    let others : defined_by c.part_all.new.rest.items ≡ filter (λ d. not (p d)) left = search rules in
    round_goes ds c.args.names.now.keys c.args.placed.now.keys left c.args.library.now stage c.place_all.new.placed.keys c.place_all.new.library (defined_by c.part_all.new.rest.items)
    (subst (λ n. 0 < n) (sym (wait_length c.part_all.new.ready.items) ∙ ap length chosen) some) (c.in_ok-place_all.ensures.functions ∙ ap (λ es. added es (definitions_of c.args.library.now)) (ap defined_by c.deref.ensures.value ∙ chosen)) others c.in_ok-place_all.ensures.placed

pub returns-clause-fewer : goal.returns-clause-fewer
returns-clause-fewer c is =
    let p = is_ready c.args.names.now.keys c.args.placed.now.keys in
    let left = defined_by c.args.left.now.items in
    let some : 0 < length c.part_all.new.ready.items = search rules in
    let chosen : defined_by c.part_all.new.ready.items ≡ filter p left = search rules in
    let others : defined_by c.part_all.new.rest.items ≡ filter (λ d. not (p d)) left = search rules in
    round_falls p c.args.left.now.items c.part_all.new.rest.items c.part_all.new.ready.items some chosen others
