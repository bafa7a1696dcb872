use Rattle.std.proofs.Common.{rules as std_rules}
use Rattle.std.proofs.Common.{◌≡◌, length}
use Rattle.std.proofs.lemmas.Result.{err_from_is_err_and}
use Rattle.std.proofs.lemmas.List.{nil_from_length}
use Rattle.nf_ast.specs.Tops.{view_script}
use Rattle.nf_parser.proofs.Whole.{refused, left_over, spelled}
use Rattle.nf_parser.proofs.parser.whole.Goals as goal

pub returns-in_err-script : goal.returns-in_err-script
returns-in_err-script c =
    let p = err_from_is_err_and c.from_residual.result c.from_residual.ensures.1 in
    rw (p.1, p.2) (refused c.args.tokens.now c.in_err-script.field-0.0 c.in_err-script.ensures)

pub returns : goal.returns
returns c =
    let n : length c.in_ok-script.rest.now ≡ 0 = search std_rules in
    spelled c.args.tokens.now (view_script c.in_ok-script.script) c.in_ok-script.rest.now (nil_from_length _ n) c.in_ok-script.ensures

pub returns-then-not-is_empty : goal.returns-then-not-is_empty
returns-then-not-is_empty c =
    let n : length c.in_ok-script.rest.now ≡ 0 → ⊥ = search std_rules in
    left_over c.args.tokens.now (view_script c.in_ok-script.script) c.in_ok-script.rest.now n c.in_ok-script.ensures
