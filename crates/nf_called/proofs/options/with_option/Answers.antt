use Rattle.std.proofs.Common.{◌≡◌, ◌∙◌, true, false, ap, sym, rules}
use Rattle.std.specs.Prelude.{bytes_eq, codes}
use Rattle.nf_ast.specs.View.{view}
use Rattle.nf_called.specs.Leaves.{leaf_emit, leaf_optional}
use Rattle.nf_called.specs.Options.{AreOptions, labels_of, options_of}
use Rattle.nf_called.proofs.Labels.{emit_option, optional_option, other_option}
use Rattle.nf_called.proofs.Steps.{gives_as}
use Rattle.nf_called.proofs.options.with_option.Goals as goal

pub returns-then-eq : goal.returns-then-eq
returns-then-eq c =
    let o = c.args.option.now in
    let before = labels_of c.args.before.now in
    let so_far = options_of c.args.so_far in
    let emit : bytes_eq o.name (codes "emit") ≡ true = search rules in
    gives_as AreOptions _ _ c.emitted.result (emit_option before o.place o.name (view o.value) so_far emit ∙ ap (λ l. leaf_emit before o.place l so_far) (sym c.leaf_of.ensures.leaf)) c.emitted.ensures

pub returns-then-eq-2 : goal.returns-then-eq-2
returns-then-eq-2 c =
    let o = c.args.option.now in
    let before = labels_of c.args.before.now in
    let so_far = options_of c.args.so_far in
    let no : bytes_eq o.name (codes "emit") ≡ false = search rules in
    let optional : bytes_eq o.name (codes "optional") ≡ true = search rules in
    gives_as AreOptions _ _ c.optional.result (optional_option before o.place o.name (view o.value) so_far no optional ∙ ap (λ l. leaf_optional o.place l so_far) (sym c.leaf_of-then-eq-2.ensures.leaf)) c.optional.ensures

pub returns : goal.returns
returns c =
    let o = c.args.option.now in
    let before = labels_of c.args.before.now in
    let no : bytes_eq o.name (codes "emit") ≡ false = search rules in
    let neither : bytes_eq o.name (codes "optional") ≡ false = search rules in
    other_option before o.place o.name (view o.value) (options_of c.args.so_far) no neither
