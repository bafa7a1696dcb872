use Rattle.std.proofs.Common.{ℕ, List, Option, None, Ok, sym, subst}
use Rattle.nf_request.specs.Held.{IsAtPath}
use Rattle.nf_request.specs.Steps.{GivesInFile}
use Rattle.nf_request.proofs.params.params_in.Goals as goal

pub returns-in-None-clause-gives : goal.returns-in-None-clause-gives
returns-in-None-clause-gives g c =
    let told = g.H.Host.files c.args.host.now in
    subst (λ (path : Option (List ℕ)). (held : Option (List ℕ)) × IsAtPath told path held × GivesInFile path held (Ok c.no_params.result)) (sym c.in-None.is) (None, tt, c.no_params.ensures)
