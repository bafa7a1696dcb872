use Rattle.std.proofs.Common.{◌≡◌, ℕ, ap, ◌∙◌, subst, take}
use Rattle.std.specs.Prelude.{take_while}
use Rattle.std.specs.Str.{IsUtf8}
use Rattle.std.specs.Str.Lossy.{utf8_valid_len}
use Rattle.nf_lexer.specs.declared.open.Change.TheVariants.{Keep}
use Rattle.nf_lexer.specs.Bytes.{is_ordinary}
use Rattle.nf_lexer.specs.Front.{written}
use Rattle.nf_lexer.proofs.Runs.{run_good, run_bad}
use Rattle.nf_lexer.proofs.quoted.run.Goals as goal

pub returns-in-Ok : goal.returns-in-Ok
returns-in-Ok c =
    let w = take_while is_ordinary c.args.bytes.now in
    let f : c.split_at.result.0.now ≡ w = c.split_at.ensures.front ∙ ap (λ (n : ℕ). take n c.args.bytes.now) c.run_len.ensures.is in
    run_good c.args.place c.in-Ok.run'.now w (c.in-Ok.ensures.cases.0 ∙ f) (subst IsUtf8 f c.in-Ok.ensures.cases.1)

pub returns-in-Err : goal.returns-in-Err
returns-in-Err c =
    let w = take_while is_ordinary c.args.bytes.now in
    let f : c.split_at.result.0.now ≡ w = c.split_at.ensures.front ∙ ap (λ (n : ℕ). take n c.args.bytes.now) c.run_len.ensures.is in
    let valid = c.in-Err.ensures.valid_len ∙ ap utf8_valid_len f in
    let not_utf8 = subst (λ z. ¬ (IsUtf8 z)) f c.in-Err.ensures.cases.0 in
    c.bad_byte.ensures ∙ run_bad c.args.place c.further.result w (written w) Keep c.valid_up_to.result _ not_utf8 c.further.ensures c.valid_up_to.ensures valid
