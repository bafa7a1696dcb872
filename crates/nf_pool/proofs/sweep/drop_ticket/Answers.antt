use Rattle.std.proofs.Common.{◌≡◌, ◌∙◌, ap, rules, sym, true}
use Rattle.std.specs.Prelude.{is_some}
use Rattle.nf_flow.specs.Seen.{Seen, state_of}
use Rattle.nf_core.proofs.Legals.{memory_legal}
use Rattle.nf_pool.proofs.Sweeps.{stopped_legal}
use Rattle.nf_pool.proofs.sweep.drop_ticket.Goals as goal

pub give_up-requires-clause-cause : goal.give_up-requires-clause-cause
give_up-requires-clause-cause g c =
    let stopped : c.is_stopped.result ≡ true = search rules in
    stopped_legal g.J.Fixed.facts c.args.run.now c.args.ticket c.requires (sym (c.is_stopped.ensures ∙ ap (λ (y : Seen). is_some (state_of y).stop) c.flow.ensures) ∙ stopped)

pub give_up-requires-2-clause-cause : goal.give_up-requires-2-clause-cause
give_up-requires-2-clause-cause g c = memory_legal g.J.Fixed.facts c.args.run.now c.args.ticket c.requires
