use Rattle.std.proofs.Common.{◌≡◌, ◌∙◌, Ok, Err, ap, refl, sym, rules}
use Rattle.nf_ast.specs.declared.expr.Label.{the_lemmas}
use Rattle.nf_ast.specs.Tree as tree
use Rattle.nf_ast.specs.Tree.{name}
use Rattle.nf_ast.specs.View.{view, view_label}
use Rattle.nf_meaning.specs.Processes.{options_in}
use Rattle.nf_called.specs.Options.{labels_of, options_of}
use Rattle.nf_called.proofs.Labels.{option_step, options_step}
use Rattle.nf_called.proofs.Steps.{fault_as}
use Rattle.nf_called.proofs.Turns.{state_turn, state_fault, state_end}
use Rattle.nf_called.proofs.options.options_in.Goals as goal

pub returns-in_err-so_far : goal.returns-in_err-so_far
returns-in_err-so_far c =
    let before = labels_of c.args.before.now in
    let o = c.option-item.result in
    let seen : view_label o ≡ tree.label (name o.place o.name) (view o.value) = search (rules, the_lemmas) in
    let e = c.in_err-so_far.field-0.0 in
    let err : c.from_residual.result ≡ Err e = search rules in
    rw err (state_fault view_label (options_in before) (option_step before) (options_step before) c.args.options.now c.loop-option.option-index o (options_of c.loop-option.so_far) _ e c.loop-option-test.true c.option-item.is c.loop-option.invariant
    (fault_as _ _ e (ap (λ t. option_step before t (options_of c.loop-option.so_far)) seen) c.in_err-so_far.ensures))

pub loop-option-preserved : goal.loop-option-preserved
loop-option-preserved c =
    let before = labels_of c.args.before.now in
    let o = c.option-item.result in
    let seen : view_label o ≡ tree.label (name o.place o.name) (view o.value) = search (rules, the_lemmas) in
    let v = c.in_ok-so_far.ensures in
    state_turn view_label (options_in before) (option_step before) (options_step before) c.args.options.now c.loop-option.option-index o (options_of c.loop-option.so_far) (options_of c.in_ok-so_far.so_far) _ c.loop-option-test.true c.option-item.is
    (ap (λ t. option_step before t (options_of c.loop-option.so_far)) seen ∙ v.is ∙ ap (λ y. Ok y) (sym v.fits)) c.loop-option.invariant

pub returns : goal.returns
returns c =
    let before = labels_of c.args.before.now in
    record {
      value = options_of c.loop-option.so_far;
      is = state_end view_label (options_in before) (λ s. refl) c.args.options.now c.loop-option.option-index (options_of c.loop-option.so_far) _ c.loop-option-test.false c.loop-option.invariant;
      fits = refl;
    }
