use Rattle.std.proofs.Common.{ap, subst, ◌∙◌}
use Rattle.nf_value.specs.Code.{code}
use Rattle.nf_codec.specs.Whole.{IsWhole}
use Rattle.nf_record.specs.Record.{record_code}
use Rattle.nf_record.proofs.write.record_text.Goals as goal

pub returns : goal.returns
unfolding record_code
returns c = record {
  spelled = c.in_ok-bytes.ensures.code ∙ ap code c.in_ok-value.ensures.plain;
  well_formed = record { exit = c.in_ok-value.ensures.exit; whole = subst IsWhole c.in_ok-value.ensures.plain c.in_ok-bytes.ensures.whole };
}
