use Rattle.std.proofs.Common.{sym, subst}
use Rattle.nf_ast.specs.Tops.{view_script}
use Rattle.nf_ends.specs.Causes.{end_of_lex, end_of_parse}
use Rattle.nf_request.specs.Steps.{GivesTree}
use Rattle.nf_request.proofs.Refused.{err_is}
use Rattle.nf_request.proofs.Trees.{Laws, tree_read, parse_read, lex_read}
use Rattle.nf_request.proofs.tree.script_of_text.Goals as goal

pub returns : goal.returns
returns c =
    let laws : Laws = record { one_unexpected = c.one_unexpected.ensures; one_too_deep = c.one_too_deep.ensures; unexpected_none = c.unexpected_spells_none.ensures; too_deep_none = c.too_deep_spells_none.ensures; not_both = c.not_both.ensures } in
    tree_read laws c.one_list.ensures c.never_both.ensures c.args.text.now c.in_ok-tokens.tokens (view_script c.in_ok-script.script) c.in_ok-tokens.ensures.gives c.in_ok-script.ensures.spelled c.in_ok-script.ensures.only

pub returns-in_err-script : goal.returns-in_err-script
returns-in_err-script c =
    let laws : Laws = record { one_unexpected = c.one_unexpected.ensures; one_too_deep = c.one_too_deep.ensures; unexpected_none = c.unexpected_spells_none.ensures; too_deep_none = c.too_deep_spells_none.ensures; not_both = c.not_both.ensures } in
    let f = c.in_err-script.field-0.0 in
    subst (GivesTree c.args.text.now) (sym (err_is c.from_residual-in_err-script.result (end_of_parse f) c.from_residual-in_err-script.ensures.1))
    (parse_read laws c.one_list.ensures c.never_both.ensures c.args.text.now c.in_ok-tokens.tokens f c.in_ok-tokens.ensures.gives c.in_err-script.ensures.refused)

pub returns-in_err-tokens : goal.returns-in_err-tokens
returns-in_err-tokens c =
    let f = c.in_err-tokens.field-0.0 in
    subst (GivesTree c.args.text.now) (sym (err_is c.from_residual.result (end_of_lex f) c.from_residual.ensures.1)) (lex_read c.one_break.ensures c.never_both.ensures c.args.text.now f c.in_err-tokens.ensures.gives)
