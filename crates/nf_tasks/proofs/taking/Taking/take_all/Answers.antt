use Rattle.std.proofs.Common.{◌+◌, None, Some, drop, map, option_map, refl, ap, sym, ◌∙◌}
use Rattle.nf_value.specs.Plain.{plains_of}
use Rattle.nf_value.specs.View.{plain_of}
use Rattle.nf_tasks.specs.Inputs.{and_files, file_in, files_among}
use Rattle.nf_tasks.specs.Taking.{bound_in}
use Rattle.nf_tasks.proofs.Takings.{file_more, file_none, no_file_more, none_from}
use Rattle.nf_tasks.proofs.Walks.{goes_on, ends}
use Rattle.nf_tasks.proofs.taking.Taking.take_all.Goals as goal

pub loop-item-init : goal.loop-item-init
loop-item-init c = refl

pub returns-in_default : goal.returns-in_default
returns-in_default c =
    let b = bound_in c.loop-item.self in
    let rest = files_among (plains_of (map plain_of (drop (c.loop-item.item-index + 1) c.args.items.now))) in
    none_from (and_files (bound_in c.args.self.now)) _
    (sym (goes_on (λ xs. option_map (and_files b) (files_among (plains_of (map plain_of xs)))) c.args.items.now c.loop-item.item-index c.item-item.result _ _ c.loop-item-test.true c.item-item.is
    (file_none b (file_in (plain_of c.item-item.result)) rest c.in_default.ensures) c.loop-item.invariant))

pub loop-item-preserved : goal.loop-item-preserved
loop-item-preserved c =
    let b = bound_in c.loop-item.self in
    let rest = files_among (plains_of (map plain_of (drop (c.loop-item.item-index + 1) c.args.items.now))) in
    goes_on (λ xs. option_map (and_files b) (files_among (plains_of (map plain_of xs)))) c.args.items.now c.loop-item.item-index c.item-item.result _ _ c.loop-item-test.true c.item-item.is
    (file_more b (bound_in c.add_file.new.self) (file_in (plain_of c.item-item.result)) c.in-Some.file.now rest c.in-Some.ensures c.in_ok-add_file.ensures) c.loop-item.invariant

pub returns : goal.returns
returns c =
    sym (ends (λ xs. option_map (and_files (bound_in c.loop-item.self)) (files_among (plains_of (map plain_of xs)))) c.args.items.now c.loop-item.item-index _ c.loop-item-test.false c.loop-item.invariant)
    ∙ ap Some (no_file_more (bound_in c.loop-item.self))
