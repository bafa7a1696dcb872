use Rattle.std.proofs.Common.{ℕ, List, sym, ap, ◌∙◌, map}
use Rattle.std.specs.Prelude.{codes}
use Rattle.std.proofs.lemmas.Result.{err_from_is_err_and}
use Rattle.nf_grammar.specs.Gram.{rule}
use Rattle.nf_grammar.proofs.Short.{seq, ruled, stop, sees}
use Rattle.nf_ast.specs.View.{trees}
use Rattle.nf_ast.specs.Tops.{maybe, view_directive, view_inputs, view_outputs, view_section, view_task}
use Rattle.nf_exprs.specs.Rules.{rules}
use Rattle.nf_exprs.proofs.Steps.{lift_fault}
use Rattle.nf_parser.proofs.Stray.{goes_past, strays, sections_miss, sections_stand}
use Rattle.nf_token.specs.declared.token.Mark.TheVariants as m
use Rattle.nf_ast.specs.Tree as tree
use Rattle.nf_exprs.specs.Level as level
use Rattle.nf_exprs.specs.Tokens as kind
use Rattle.nf_exprs.specs.Rules as row
use Rattle.nf_parser.proofs.processes.process.Goals as goal

pub returns-in_err-place-clause-parses : goal.returns-in_err-place-clause-parses
unfolding rules
returns-in_err-place-clause-parses c =
    let p = err_from_is_err_and c.from_residual.result c.from_residual.ensures.1 in
    rw (p.1, p.2) (lift_fault (row.word (codes "process")) (rule level.Process) _ _ c.in_err-place.field-0.0 (λ o s q. ruled (stop o s q)) (c.in_err-place.ensures.parses))

pub returns-in_err-name_place-clause-parses : goal.returns-in_err-name_place-clause-parses
unfolding rules
returns-in_err-name_place-clause-parses c =
    let p = err_from_is_err_and c.from_residual-in_err-name_place.result c.from_residual-in_err-name_place.ensures.1 in
    rw (p.1, p.2) (lift_fault (row.kind kind.name_of) (rule level.Process) _ _ c.in_err-name_place.field-0.0 (λ o s q. ruled (seq c.in_ok-place.ensures.parses (stop o s q))) (c.in_err-name_place.ensures.parses))

pub returns-in_err-rest-clause-parses : goal.returns-in_err-rest-clause-parses
unfolding rules
returns-in_err-rest-clause-parses c =
    let p = err_from_is_err_and c.from_residual-in_err-rest.result c.from_residual-in_err-rest.ensures.1 in
    rw (p.1, p.2) (lift_fault (row.opens 0 m.OpenBrace) (rule level.Process) _ _ c.in_err-rest.field-0.0 (λ o s q. ruled (seq c.in_ok-place.ensures.parses (seq c.in_ok-name_place.ensures.parses (stop o s q)))) (c.in_err-rest.ensures.parses))

pub returns-in_err-directives-clause-parses : goal.returns-in_err-directives-clause-parses
unfolding rules
returns-in_err-directives-clause-parses c =
    let p = err_from_is_err_and c.from_residual-in_err-directives.result c.from_residual-in_err-directives.ensures.1 in
    rw (p.1, p.2) (lift_fault (row.directives) (rule level.Process) _ _ c.in_err-directives.field-0.0 (λ o s q. ruled (seq c.in_ok-place.ensures.parses (seq c.in_ok-name_place.ensures.parses (seq c.in_ok-rest.ensures.parses (stop o s q))))) (c.in_err-directives.ensures.parses))

pub returns-in-Some-clause-parses : goal.returns-in-Some-clause-parses
unfolding rules
returns-in-Some-clause-parses c =
    ruled (seq c.in_ok-place.ensures.parses (seq c.in_ok-name_place.ensures.parses (seq c.in_ok-rest.ensures.parses (strays row.directives (row.sections c.in_ok-place.place (tree.name c.in_ok-name_place.name_place c.in_ok-name_place.name.now)) _ c.in_ok-directives.rest.now (trees (map view_directive c.in_ok-directives.directives.items)) c.begins_section.result c.in-Some.left c.in-Some.ensures (λ l e. sections_miss c.in_ok-directives.rest.now c.in_ok-place.place (tree.name c.in_ok-name_place.name_place c.in_ok-name_place.name.now) (trees (map view_directive c.in_ok-directives.directives.items)) l (sym c.begins_section.ensures ∙ e)) c.in_ok-directives.ensures.parses))))

pub returns-in_err-contents-clause-parses : goal.returns-in_err-contents-clause-parses
unfolding rules
returns-in_err-contents-clause-parses c =
    let p = err_from_is_err_and c.from_residual-in_err-contents.result c.from_residual-in_err-contents.ensures.1 in
    rw (p.1, p.2) (lift_fault (row.sections c.in_ok-place.place (tree.name c.in_ok-name_place.name_place c.in_ok-name_place.name.now) (trees (map view_directive c.in_ok-directives.directives.items))) (rule level.Process) _ _ c.in_err-contents.field-0.0 (λ o s q. ruled (seq c.in_ok-place.ensures.parses (seq c.in_ok-name_place.ensures.parses (seq c.in_ok-rest.ensures.parses (goes_past row.directives (row.sections c.in_ok-place.place (tree.name c.in_ok-name_place.name_place c.in_ok-name_place.name.now)) _ c.in_ok-directives.rest.now (trees (map view_directive c.in_ok-directives.directives.items)) c.begins_section.result o (λ e. sections_stand c.in_ok-directives.rest.now c.in_ok-place.place (tree.name c.in_ok-name_place.name_place c.in_ok-name_place.name.now) (trees (map view_directive c.in_ok-directives.directives.items)) (sym c.begins_section.ensures ∙ e)) c.in_default.ensures c.in_ok-directives.ensures.parses (q)))))) (c.in_err-contents.ensures.parses c.in_ok-place.place (tree.name c.in_ok-name_place.name_place c.in_ok-name_place.name.now) (trees (map view_directive c.in_ok-directives.directives.items))))

pub returns-clause-parses : goal.returns-clause-parses
unfolding rules
returns-clause-parses c =
    sees (ap (λ (n : List ℕ). tree.process c.in_ok-place.place (tree.name c.in_ok-name_place.name_place n) (trees (map view_directive c.in_ok-directives.directives.items)) (maybe view_inputs c.in_ok-contents.contents.inputs) (maybe view_outputs c.in_ok-contents.contents.outputs) (view_task c.in_ok-contents.contents.task) (maybe view_section c.in_ok-contents.contents.stub)) c.in_ok-name.ensures) (ruled (seq c.in_ok-place.ensures.parses (seq c.in_ok-name_place.ensures.parses (seq c.in_ok-rest.ensures.parses (goes_past row.directives (row.sections c.in_ok-place.place (tree.name c.in_ok-name_place.name_place c.in_ok-name_place.name.now)) _ c.in_ok-directives.rest.now (trees (map view_directive c.in_ok-directives.directives.items)) c.begins_section.result _ (λ e. sections_stand c.in_ok-directives.rest.now c.in_ok-place.place (tree.name c.in_ok-name_place.name_place c.in_ok-name_place.name.now) (trees (map view_directive c.in_ok-directives.directives.items)) (sym c.begins_section.ensures ∙ e)) c.in_default.ensures c.in_ok-directives.ensures.parses (c.in_ok-contents.ensures.parses c.in_ok-place.place (tree.name c.in_ok-name_place.name_place c.in_ok-name_place.name.now) (trees (map view_directive c.in_ok-directives.directives.items))))))))
