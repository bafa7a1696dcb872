use Rattle.nf_value.specs.View.{plain_of}
use Rattle.nf_texts.specs.Outcome.{Gives}
use Rattle.nf_builtins.specs.Call.{answer_of, builtin_rows}
use Rattle.nf_placed.proofs.Arguments.{called, at_row}
use Rattle.nf_placed.proofs.methods.row_value.Goals as goal

pub returns-in-Call : goal.returns-in-Call
returns-in-Call c =
    let recv = plain_of c.args.recv.now in
    called c.args.place c.args.builtin.form c.args.builtin.method recv c.args.args.now c.call.result c.placed.result c.in-Call.is (at_row builtin_rows c.args.row c.args.builtin (λ b. Gives (answer_of b.method recv c.args.args.now) c.call.result) c.requires.row c.call.ensures) c.placed.ensures
