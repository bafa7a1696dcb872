use Rattle.std.proofs.Common.{[], ◌∷◌, ◌++◌, refl, sym, ap, ◌∙◌}
use Rattle.nf_value.specs.View.{plain_of}
use Rattle.nf_opstream.specs.Push.{push_of}
use Rattle.nf_opstream.proofs.Recall.{gives_deep, gives_again, gives_first, after_one_more}
use Rattle.nf_opstream.proofs.unique.UniqueState.push.Goals as goal

pub returns-then-is_too_deep-clause-emits : goal.returns-then-is_too_deep-clause-emits
returns-then-is_too_deep-clause-emits c = λ p after. (let x = push_of c.args.port (plain_of c.args.item) (plain_of c.args.answer) in
    gives_deep p c.args.self.now c.each_once.ensures after x (sym c.is_too_deep.ensures ∙ c.if-is_too_deep.true))

pub returns-then-not-branch-clause-emits : goal.returns-then-not-branch-clause-emits
returns-then-not-branch-clause-emits c = λ p after. (let x = push_of c.args.port (plain_of c.args.item) (plain_of c.args.answer) in
    gives_again p c.args.self.now c.each_once.ensures after x c.in_ok-copy.copy c.args.item refl (sym c.is_too_deep.ensures ∙ c.if-is_too_deep.false) c.in_ok-copy.ensures
    (sym c.if-not-branch.true ∙ c.in_ok-insert.ensures.added) c.new.result.items c.new.ensures.items)

pub returns-then-not-branch-clause-after : goal.returns-then-not-branch-clause-after
returns-then-not-branch-clause-after c = λ p after. (let x = push_of c.args.port (plain_of c.args.item) (plain_of c.args.answer) in
    after_one_more p c.args.self.now _ after x c.in_ok-copy.copy c.args.item refl (sym c.is_too_deep.ensures ∙ c.if-is_too_deep.false) c.in_ok-copy.ensures c.in_ok-insert.ensures.updates)

pub returns-clause-emits : goal.returns-clause-emits
returns-clause-emits c = λ p after. (let x = push_of c.args.port (plain_of c.args.item) (plain_of c.args.answer) in
    gives_first p c.args.self.now c.each_once.ensures after x c.in_ok-copy.copy c.args.item refl (sym c.is_too_deep.ensures ∙ c.if-is_too_deep.false) c.in_ok-copy.ensures
    (sym c.if-not-branch.false ∙ c.in_ok-insert.ensures.added) c.push.new.self.items (c.in_ok-push.ensures.items ∙ ap (λ es. es ++ (0, c.args.item) ∷ []) c.new-emits.ensures.items))

pub returns-clause-after : goal.returns-clause-after
returns-clause-after c = λ p after. (let x = push_of c.args.port (plain_of c.args.item) (plain_of c.args.answer) in
    after_one_more p c.args.self.now _ after x c.in_ok-copy.copy c.args.item refl (sym c.is_too_deep.ensures ∙ c.if-is_too_deep.false) c.in_ok-copy.ensures c.in_ok-insert.ensures.updates)
