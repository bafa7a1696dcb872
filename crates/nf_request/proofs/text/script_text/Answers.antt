use Rattle.std.proofs.Common.{ℕ, List, Option, None, sym, subst}
use Rattle.nf_command.specs.declared.command.Command.{Command}
use Rattle.nf_request.specs.Held.{IsAtPath}
use Rattle.nf_request.specs.Words.{script_path, text_for}
use Rattle.nf_request.specs.Steps.{GivesText}
use Rattle.nf_request.proofs.Refused.{only_memory}
use Rattle.nf_request.proofs.text.script_text.Goals as goal

pub returns-in-Gen-clause-gives : goal.returns-in-Gen-clause-gives
returns-in-Gen-clause-gives g c =
    let told = g.H.Host.files c.args.host.now in
    subst (λ (m : Command). (held : Option (List ℕ)) × IsAtPath told (script_path m) held × GivesText (text_for m held) c.text_of_numbers.result) (sym c.in-Gen.is) (None, tt, c.text_of_numbers.ensures.gives)

pub returns-in-Gen-clause-cause : goal.returns-in-Gen-clause-cause
returns-in-Gen-clause-cause g c = only_memory c.text_of_numbers.result _ c.text_of_numbers.ensures.memory
