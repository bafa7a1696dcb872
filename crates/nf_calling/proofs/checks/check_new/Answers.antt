use Rattle.std.proofs.Common.{◌∙◌, sym}
use Rattle.nf_builtins.specs.Natives.{is_among}
use Rattle.nf_meaning.specs.declared.fault.LowerFault.TheVariants.{TwiceDefined}
use Rattle.nf_calling.proofs.Checking.{is_fault, no_fault}
use Rattle.nf_calling.proofs.Texts.{contains_is}
use Rattle.nf_calling.proofs.checks.check_new.Goals as goal

pub returns-then-is_called-clause-fault : goal.returns-then-is_called-clause-fault
returns-then-is_called-clause-fault c braces x s stands =
    is_fault (is_among c.args.name.now s.scope.called) (TwiceDefined c.args.place) (sym (c.is_called.ensures.walk braces x s stands) ∙ c.if-is_called.true)

pub returns-clause-fault : goal.returns-clause-fault
returns-clause-fault c braces x s stands =
    no_fault (is_among c.args.name.now s.scope.called) (TwiceDefined c.args.place) (sym (c.is_called.ensures.walk braces x s stands) ∙ c.if-is_called.false)

pub returns-clause-new : goal.returns-clause-new
returns-clause-new c = sym (contains_is c.args.state.now.called c.args.name.now) ∙ sym c.is_called.ensures.called ∙ c.if-is_called.false
