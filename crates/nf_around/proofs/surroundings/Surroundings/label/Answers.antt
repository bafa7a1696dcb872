use Rattle.std.proofs.Common.{◌≡◌, ◌∙◌, Err, sym, rules}
use Rattle.nf_ast.specs.View.{view_closure}
use Rattle.nf_builtins.specs.Natives.{is_among}
use Rattle.nf_around.proofs.Labelled.{title_twice, label_refused, label_gives}
use Rattle.nf_around.proofs.surroundings.Surroundings.label.Goals as goal

pub returns-then-has_title : goal.returns-then-has_title
returns-then-has_title g c a s h fine =
    let same : c.has_title.result ≡ is_among c.args.label.now.name c.args.titles.now = search rules in
    title_twice a s c.args.closure.now c.args.label.now c.args.titles.now (sym same ∙ c.if-has_title.true)

pub returns-in_err-check_closure : goal.returns-in_err-check_closure
returns-in_err-check_closure g c a s h fine =
    let same : c.has_title.result ≡ is_among c.args.label.now.name c.args.titles.now = search rules in
    let err : c.from_residual-in_err-check_closure.result ≡ Err c.in_err-check_closure.field-0.0 = search rules in
    rw err (label_refused a s c.args.closure.now c.args.label.now c.args.titles.now fine (view_closure c.in_ok-alone.alone) c.in_ok-alone.ensures (sym same ∙ c.if-has_title.false)
    c.in_err-check_closure.field-0.0 (c.in_err-check_closure.ensures a s h))

pub returns : goal.returns
returns g c a s h fine =
    let same : c.has_title.result ≡ is_among c.args.label.now.name c.args.titles.now = search rules in
    label_gives a s c.args.closure.now c.args.label.now c.args.titles.now fine (view_closure c.in_ok-alone.alone) c.in_ok-alone.ensures (sym same ∙ c.if-has_title.false)
    c.in_ok-check_closure.field-0 c.in_ok-captured.field-0 (c.in_ok-check_closure.ensures a s h) (c.in_ok-captured.ensures a s h)
