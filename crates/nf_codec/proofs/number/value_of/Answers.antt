use Rattle.nf_codec.proofs.Numbers.{parsed, digits_are_text}
use Rattle.nf_codec.proofs.number.value_of.Goals as goal

pub returns-in-Ok : goal.returns-in-Ok
returns-in-Ok c = parsed c.args.digits.now c.in-Ok.text.now c.parse.result c.ok.result c.parse.ensures.value.0 c.in-Ok.ensures.cases.0 c.requires.digits c.requires.some c.ok.ensures.value

pub returns-in-Err : goal.returns-in-Err
returns-in-Err c = absurd (c.in-Err.ensures.cases.0 (digits_are_text c.args.digits.now c.requires.digits))
