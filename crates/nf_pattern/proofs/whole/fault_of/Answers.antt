use Rattle.nf_pattern.proofs.Wholes.{no_pattern_of, pattern_of_size, pattern_of_failure}
use Rattle.nf_pattern.proofs.whole.fault_of.Goals as goal

pub returns-in-Syntax : goal.returns-in-Syntax
returns-in-Syntax c = λ source refused kind. no_pattern_of source c.args.error.now c.in-Syntax.field-0 c.in-Syntax.is refused kind

pub returns-in-CompiledTooBig : goal.returns-in-CompiledTooBig
returns-in-CompiledTooBig c = λ source refused kind. pattern_of_size source c.args.error.now c.in-CompiledTooBig.is kind

pub returns-in-Internal : goal.returns-in-Internal
returns-in-Internal c = λ source refused kind. pattern_of_failure source c.args.error.now c.in-Internal.is kind
