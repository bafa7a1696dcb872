use Rattle.std.proofs.Common.{◌≡◌, ◌∙◌, ◌+◌, ◌<◌, ◌++◌, ◌∷◌, [], map, take, length, Err, sym, ap, subst, subst₂, rules, arith}
use Rattle.std.proofs.lemmas.List.{take_more, map-append}
use Rattle.nf_lowered.specs.Given.{HasFault, HasValue}
use Rattle.nf_around.specs.Labels.{IsLabelled, judged_label}
use Rattle.nf_around.proofs.Labelled.{Goes, begins, goes_on, goes_wrong, goes_to_end}
use Rattle.nf_around.proofs.surroundings.Surroundings.each_label.Goals as goal

pub loop-label-init : goal.loop-label-init
loop-label-init g c = (
  c.new-titles.ensures.items,
  λ a s h fine. subst₂ (λ ts cs. Goes a s c.args.closure.now c.args.labels.now 0 ts cs) (sym c.new-titles.ensures.items) (sym c.new-closures.ensures.items) (begins a s c.args.closure.now c.args.labels.now),
)

pub loop-label-preserved : goal.loop-label-preserved
loop-label-preserved g c =
    let labels = c.args.labels.now in
    let i = c.loop-label.label-index in
    let l = c.label-item.result in
    let before = c.loop-label.titles.items in
    let lt : i < length labels = search rules in
    let more : take (i + 1) labels ≡ take i labels ++ l ∷ [] = take_more labels i l lt ∙ ap (λ y. take i labels ++ y ∷ []) (sym c.label-item.is) in
    let titles : c.push-in-loop-label.new.self.items ≡ before ++ l.name ∷ [] = search rules in
    let closures : c.push.new.self.items ≡ c.loop-label.closures.items ++ c.in_ok-stored.stored ∷ [] = search rules in (
      titles ∙ ap (λ xs. xs ++ l.name ∷ []) c.loop-label.invariant.0 ∙ sym (ap (map (λ x. x.name)) more ∙ map-append (λ x. x.name) (take i labels) (l ∷ [])),
      λ a s h fine. subst₂ (λ ts cs. Goes a s c.args.closure.now labels (i + 1) ts cs) (sym titles) (sym closures)
          (goes_on a s c.args.closure.now labels i l before c.loop-label.closures.items c.in_ok-stored.stored lt c.label-item.is
          (subst (λ ts. HasValue (judged_label a s c.args.closure.now ts l) (IsLabelled a s c.args.closure.now l c.in_ok-stored.stored)) c.deref.ensures.value (c.in_ok-stored.ensures a s h fine))
          (c.loop-label.invariant.1 a s h fine)),
    )

pub returns-in_err-stored : goal.returns-in_err-stored
returns-in_err-stored g c a s h fine =
    let labels = c.args.labels.now in
    let i = c.loop-label.label-index in
    let l = c.label-item.result in
    let e = c.in_err-stored.field-0.0 in
    let lt : i < length labels = search rules in
    let err : c.from_residual.result ≡ Err e = search rules in
    rw err (goes_wrong a s c.args.closure.now labels i l c.loop-label.titles.items c.loop-label.closures.items e lt c.label-item.is
    (subst (λ ts. HasFault (judged_label a s c.args.closure.now ts l) e) c.deref.ensures.value (c.in_err-stored.ensures a s h fine)) (c.loop-label.invariant.1 a s h fine))

pub returns : goal.returns
returns g c a s h fine =
    goes_to_end a s c.args.closure.now c.args.labels.now c.loop-label.label-index c.loop-label.titles.items c.loop-label.closures.items (omega arith) c.loop-label.invariant.0 (c.loop-label.invariant.1 a s h fine)
