use Rattle.std.proofs.Common.{◌≡◌, Err, true, false, option_map, ap, sym, ◌∙◌, subst, arith, rules}
use Rattle.std.proofs.lemmas.Bool.Decides.{nat_tests}
use Rattle.nf_value.specs.View.{plain_of}
use Rattle.nf_tasks.specs.Judged.{AnswersBy}
use Rattle.nf_tasks.specs.Meaning.{parts_in}
use Rattle.nf_tasks.specs.Memory.{program, output_of, shape_of}
use Rattle.nf_tasks.specs.Emission.{given, all_there, output_value, shape_value, value_if}
use Rattle.nf_tasks.proofs.Adding.{refused_by}
use Rattle.nf_tasks.proofs.emission.output_value.Goals as goal

pub returns-then-not-all_there : goal.returns-then-not-all_there
returns-then-not-all_there g c =
    let n = program (g.N.Natives.titles c.args.natives.now) (g.N.Natives.answer c.args.natives.now) in
    let found = c.args.found.now in
    let there = c.all_there.ensures n ∙ ap (λ ps. all_there ps found) (c.parts_in.ensures.meant n) in
    let none : c.all_there.result ≡ false = grind (arith, nat_tests) in
    ap (λ b. value_if b (shape_value (given c.args.giving.now) (shape_of n c.args.output.now.shape) found)) (sym there ∙ none)

pub returns-in_err-value : goal.returns-in_err-value
returns-in_err-value g c =
    let n = program (g.N.Natives.titles c.args.natives.now) (g.N.Natives.answer c.args.natives.now) in
    let found = c.args.found.now in
    let part = shape_value (given c.args.giving.now) (shape_of n c.args.output.now.shape) found in
    let due = output_value (given c.args.giving.now) (output_of n c.args.output.now) found in
    let there = c.all_there.ensures n ∙ ap (λ ps. all_there ps found) (c.parts_in.ensures.meant n) in
    let all : c.all_there.result ≡ true = grind (arith, nat_tests) in
    let e = c.in_err-value.field-0.0 in
    let err : c.from_residual.result ≡ Err e = search rules in
    subst (AnswersBy (option_map plain_of) due) (sym err) (refused_by plain_of (option_map plain_of) part due e (λ f h. ap (λ b. value_if b part) (sym there ∙ all) ∙ ap (value_if true) h) c.in_err-value.ensures)

pub returns : goal.returns
returns g c =
    let n = program (g.N.Natives.titles c.args.natives.now) (g.N.Natives.answer c.args.natives.now) in
    let found = c.args.found.now in
    let part = shape_value (given c.args.giving.now) (shape_of n c.args.output.now.shape) found in
    let there = c.all_there.ensures n ∙ ap (λ ps. all_there ps found) (c.parts_in.ensures.meant n) in
    let all : c.all_there.result ≡ true = grind (arith, nat_tests) in
    ap (λ b. value_if b part) (sym there ∙ all) ∙ ap (value_if true) c.in_ok-value.ensures
