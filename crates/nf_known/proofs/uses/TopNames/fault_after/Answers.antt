use Rattle.std.proofs.Common.{◌∙◌, refl, sym}
use Rattle.nf_meaning.specs.Functions.{no_names_known}
use Rattle.nf_meaning.specs.Names.{in_run, uses_fault}
use Rattle.nf_callees.specs.Found.{defined_in}
use Rattle.nf_known.specs.Judged.{calls_in}
use Rattle.nf_known.proofs.Firsts.{none_first, some_first}
use Rattle.nf_known.proofs.uses.TopNames.fault_after.Goals as goal

pub returns-in-Some : goal.returns-in-Some
returns-in-Some g c given program =
    let us = c.args.uses.now in
    sym (some_first (uses_fault given (defined_in c.args.self.now.definitions) no_names_known in_run us) (calls_in c.args.judged.now.entries us) c.in-Some.fault (sym (c.in-Some.ensures given no_names_known program refl)))

pub returns : goal.returns
returns g c given program =
    let us = c.args.uses.now in
    c.called_fault.ensures ∙ sym (none_first (uses_fault given (defined_in c.args.self.now.definitions) no_names_known in_run us) (calls_in c.args.judged.now.entries us) (sym (c.in_default.ensures given no_names_known program refl)))
