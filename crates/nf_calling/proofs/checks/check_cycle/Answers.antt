use Rattle.std.proofs.Common.{◌∙◌, sym}
use Rattle.nf_builtins.specs.Natives.{is_among}
use Rattle.nf_meaning.specs.declared.fault.LowerFault.TheVariants.{CallCycle}
use Rattle.nf_calling.proofs.Checking.{is_fault, no_fault}
use Rattle.nf_calling.proofs.checks.check_cycle.Goals as goal

pub returns-then-is_within : goal.returns-then-is_within
returns-then-is_within c braces x s stands =
    is_fault (is_among c.args.name.now s.scope.within) (CallCycle c.args.place) (sym (c.is_within.ensures.walk braces x s stands) ∙ c.if-is_within.true)

pub returns : goal.returns
returns c braces x s stands =
    no_fault (is_among c.args.name.now s.scope.within) (CallCycle c.args.place) (sym (c.is_within.ensures.walk braces x s stands) ∙ c.if-is_within.false)
