-- A history grows at its end.
use Rattle.std.proofs.Common.{◌≡◌, List, [], ◌∷◌, ◌++◌, refl}
use Rattle.std.specs.Prelude.{◌↔◌}
use Rattle.nf_graph.specs.Rules.{Rules}
use Rattle.nf_graph.specs.Node.{PlainNode}
use Rattle.nf_machine.specs.Event.{PlainEvent}
use Rattle.nf_machine.specs.State.{State}
use Rattle.nf_machine.specs.Step.{step, replay}
use Rattle.nf_machine.specs.Legal.{IsLegal}
use Rattle.nf_machine.specs.History.{IsLawful}

pub replay_grows : (g : List PlainNode) (s : State) (h : List PlainEvent) (e : PlainEvent) → replay g s (h ++ e ∷ []) ≡ step g (replay g s h) e
replay_grows g s [] e = refl
replay_grows g s (x ∷ h) e = replay_grows g (step g s x) h e

pub lawful_grows : (g : List PlainNode) (R : Rules) (s : State) (h : List PlainEvent) (e : PlainEvent) → IsLawful g R s (h ++ e ∷ []) ↔ (IsLawful g R s h × IsLegal g R (replay g s h) e)
lawful_grows g R s h e = (there g R s h e, back g R s h e)
  where
    there : (g : List PlainNode) (R : Rules) (s : State) (h : List PlainEvent) (e : PlainEvent) → IsLawful g R s (h ++ e ∷ []) → IsLawful g R s h × IsLegal g R (replay g s h) e
    there g R s [] e l = (tt, l.0)
    there g R s (x ∷ h) e l = let r = there g R (step g s x) h e l.1 in ((l.0, r.0), r.1)

    back : (g : List PlainNode) (R : Rules) (s : State) (h : List PlainEvent) (e : PlainEvent) → IsLawful g R s h × IsLegal g R (replay g s h) e → IsLawful g R s (h ++ e ∷ [])
    back g R s [] e l = (l.1, tt)
    back g R s (x ∷ h) e l = ((l.0).0, back g R (step g s x) h e ((l.0).1, l.1))
