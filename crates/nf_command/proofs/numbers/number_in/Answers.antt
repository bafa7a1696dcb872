use Rattle.std.proofs.Common.{◌∙◌, sym, arith}
use Rattle.nf_command.proofs.Parsed.{number_after_test, no_number_after_test}
use Rattle.std.proofs.lemmas.Str.Pattern.{starts_char}
use Rattle.nf_command.proofs.numbers.number_in.Goals as goal

pub returns-then-starts_with : goal.returns-then-starts_with
returns-then-starts_with c =
    sym (no_number_after_test c.args.word.now c.starts_with.result (starts_char 43 c.args.word.now c.starts_with.result c.starts_with.ensures.cases (omega arith) (omega arith)) c.if-starts_with.true)

pub returns : goal.returns
returns c =
    c.ok.ensures.value ∙ number_after_test c.args.word.now c.starts_with.result c.parse.result c.parse.ensures.value.0 (starts_char 43 c.args.word.now c.starts_with.result c.starts_with.ensures.cases (omega arith) (omega arith)) c.if-starts_with.false
