use Rattle.std.proofs.Common.{refl}
use Rattle.nf_value.specs.View.{plain_of}
use Rattle.nf_opstream.specs.Push.{push_of}
use Rattle.nf_opstream.specs.Fault.{not_a_number}
use Rattle.nf_opclose.specs.Rows.{sum_row}
use Rattle.nf_opclose.proofs.Promised.{gives_silent}
use Rattle.nf_opclose.proofs.Totals.{number_given, no_number, stray_given}
use Rattle.nf_opclose.proofs.sum.SumState.push.Goals as goal

pub returns-in-Int-clause-emits : goal.returns-in-Int-clause-emits
returns-in-Int-clause-emits c = λ p after. (let x = push_of c.args.port (plain_of c.args.item) (plain_of c.args.answer) in
    gives_silent sum_row c.sum.ensures c.promises.ensures.emitted p after.fine x c.new.result.items c.new.ensures.items (number_given x c.args.item c.in-Int.number refl c.in-Int.is))

pub returns : goal.returns
returns c = record {
  emits = λ p after. (let x = push_of c.args.port (plain_of c.args.item) (plain_of c.args.answer) in
      c.promises.ensures.faulted sum_row c.sum.ensures p after.fine x (not_a_number (plain_of c.args.item)) (stray_given x (no_number c.args.item c.in_default.not-Int)));
  after = λ p after. tt;
  refused = refl;
}
