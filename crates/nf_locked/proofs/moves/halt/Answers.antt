use Rattle.std.proofs.Common.{◌≡◌, true, ap, inl, refl, rules, sym, ◌∙◌}
use Rattle.std.specs.Prelude.{is_some}
use Rattle.nf_flow.specs.Seen.{Seen, state_of}
use Rattle.nf_locked.proofs.moves.halt.Goals as goal

pub returns-else-not-is_stopped : goal.returns-else-not-is_stopped
returns-else-not-is_stopped g c =
    let stopped : c.is_stopped.result ≡ true = search rules in
    inl (sym (c.is_stopped.ensures ∙ ap (λ (y : Seen). is_some (state_of y).stop) c.flow.ensures) ∙ stopped, refl)
