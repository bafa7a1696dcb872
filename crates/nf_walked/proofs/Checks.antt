-- Checks, and what is known before the run: what needs no step of the walk.
use Rattle.std.proofs.Common.{◌≡◌, Result, Ok, Err, Option, Some, None, refl, ap, subst, sym}
use Rattle.nf_meaning.specs.declared.fault.LowerFault.{LowerFault}
use Rattle.nf_meaning.specs.Lowered.{Lowered, unless}
use Rattle.nf_meaning.specs.Walk.{Around, State, at_state, unless_fault}
use Rattle.nf_lowered.specs.Given.{Gives}
use Rattle.nf_lowered.proofs.Joining.{fault_by}
use Rattle.nf_lowering.specs.declared.state.Lowering.{Lowering}
use Rattle.nf_lowering.specs.State.{IsLowering}
use Rattle.nf_walked.specs.Forms.{nothing}
use Rattle.nf_walked.specs.Steps.{Known, Walked, due}
use Rattle.nf_takes.specs.Takes.{FaultIs}
use Rattle.nf_walked.proofs.Goings.{anything}
use Rattle.nf_walked.proofs.Stills.{still}

pub lifted_stays : {A B : Type 0} (stands : A → B → Type 0) (x : Lowered B) (s : State) (r : Result A LowerFault) → Gives stands x r → Gives (λ v o. stands v o.0 × (o.1 ≡ s)) (at_state s x) r
lifted_stays stands x s (Ok v) h = record { value = (h.value, s); is = ap (at_state s) h.is; fits = (h.fits, refl) }
lifted_stays stands x s (Err e) h = fault_by x (at_state s x) e (λ k. ap (at_state s) k) h

unless_as : (o : Option LowerFault) (a : Around) (s : State) → unless_fault o a s ≡ at_state s (unless {A = Unit {0}} o (Ok tt))
unless_as None a s = refl
unless_as (Some f) a s = refl

-- a check
pub checked : (K : Known) (o : Option LowerFault) (z : Lowering) (r : Result (Unit {0}) LowerFault) → IsLowering z → FaultIs o r → Walked K (due nothing (unless_fault o)) z z r
checked K o z r keeps h =
    still K nothing (unless_fault o) z r keeps (anything r)
    (λ p stands.
    subst (λ w. Gives (λ (v : Unit {0}) (q : Unit {0} × State). Unit {0} × (q.1 ≡ p.state)) w r) (sym (unless_as o p.around p.state))
    (lifted_stays {A = Unit {0}} {B = Unit {0}} (λ u v. Unit {0}) (unless {A = Unit {0}} o (Ok tt)) p.state r h))
