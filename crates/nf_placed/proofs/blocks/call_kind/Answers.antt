use Rattle.std.proofs.Common.{Err}
use Rattle.nf_value.specs.View.{plain_of}
use Rattle.nf_texts.specs.Outcome.{Gives}
use Rattle.nf_builtins.specs.Call.{answer_of, builtin_rows}
use Rattle.nf_placed.proofs.Arguments.{at_row}
use Rattle.nf_placed.proofs.Unfitting.{unfit_of_fault}
use Rattle.nf_placed.proofs.blocks.call_kind.Goals as goal

pub returns : goal.returns
returns c =
    let recv = plain_of c.args.recv.now in
    let args = c.in_ok-args.args in
    let gives = at_row builtin_rows c.args.row c.args.builtin (λ b. Gives (answer_of b.method recv args) (Err c.in-Err.fault)) c.requires.row c.in-Err.ensures in
    unfit_of_fault c.args.builtin.method recv c.args.count args c.in_ok-args.ensures c.in-Err.fault c.kind_before.result gives c.kind_before.ensures
