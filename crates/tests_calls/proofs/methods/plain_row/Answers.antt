use Rattle.std.proofs.Common.{◌≡◌, ◌∙◌, arith, rules, false, length, ◌<◌}
use Rattle.tests_calls.proofs.Rows.{row_is_plain}
use Rattle.tests_calls.proofs.methods.plain_row.Goals as goal

pub returns : goal.returns
returns c = λ c'.
    let there : c'.in_ok-row.row < length c'.rows-rows.result.now = omega arith in
    let free : c'.takes_closure.result ≡ false = search rules in
    row_is_plain c'.rows-rows.result.now c'.in_ok-row.row _ c'.takes_closure.result (c'.rows-rows.ensures.rows ∙ c'.requires) there c'.takes_closure.ensures free
