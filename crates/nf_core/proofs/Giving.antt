-- What a run keeps when the rules' answer is entered for an item, or its ticket is given up.
use Rattle.std.proofs.Common.{◌≡◌, arith, ap, ◌∙◌, ◌⊎◌, inl, inr}
use Rattle.std.specs.Prelude.{Some, Result, Ok, Err, OnOk, OnErr}
use Rattle.nf_value.specs.declared.value.Value.{Value}
use Rattle.nf_value.specs.declared.fault.EvalFault.{EvalFault}
use Rattle.nf_machine.specs.declared.event.Event.TheVariants as e
use Rattle.nf_machine.specs.declared.stop.Stop.TheVariants as s
use Rattle.nf_flight.specs.declared.ticket.Ticket.{Ticket}
use Rattle.nf_flight.specs.Ticket.{number_of}
use Rattle.nf_flow.specs.Seen.{Seen, roomy, grown, lost}
use Rattle.nf_flow.specs.Questions.{IsFlying}
use Rattle.nf_core.specs.Opening.{Opening}
use Rattle.nf_core.specs.Told.{Ending}
use Rattle.nf_core.specs.Calls.{IsAnswered, GivesUp}
use Rattle.nf_core.specs.Leaves.{CanGoOn}
use Rattle.nf_core.specs.Run.{Parts, IsRun}
use Rattle.nf_core.proofs.Events.{kept_quiet, kept_given_up, quiet_give}
use Rattle.nf_core.proofs.Legals.{give_legal, memory_legal, grown_on}
use Rattle.nf_core.proofs.Viewed.{mem_no_lane}
use Rattle.nf_core.proofs.Finishing.{mem_innocent}

pub kept_gave : {F : Opening} {D S A E : Type 0} {done : D → Ending → Type 0} {seen : S → Ending → Type 0} {z : Parts D S} (t : Ticket) (answer : Result Value EvalFault) (r : Result A E) (m u : Seen)
    → IsRun F done seen z → IsFlying z.flow t → IsAnswered F.rules z.flow t answer → CanGoOn z.flow m → OnOk r (u ≡ grown m (e.Give (number_of t) answer)) → OnErr r (u ≡ grown m (lost (number_of t)))
    → IsRun F done seen (record z { flow = u })
kept_gave {F} {z = z} t answer (Ok v) m u run f a can ok err =
    kept_quiet (e.Give (number_of t) answer) u z.faults run (quiet_give (give_legal F z.flow t answer a can.running)) (omega arith) (grown_on z.flow m u (e.Give (number_of t) answer) can.room ok)
kept_gave {F} {z = z} t answer (Err v) m u run f a can ok err =
    kept_given_up (number_of t) (Some s.Mem) u z.faults run (memory_legal F z.flow t f) (omega arith) (λ b. absurd (mem_innocent b)) (grown_on z.flow m u (lost (number_of t)) can.room err)

pub gave_or_up : {A E : Type 0} (z f m u : Seen) (t : Ticket) (answer : Result Value EvalFault) (r : Result A E) → f ≡ z → m ≡ roomy f → OnOk r (u ≡ grown m (e.Give (number_of t) answer))
    → OnErr r (u ≡ grown m (lost (number_of t))) → (u ≡ grown z (e.Give (number_of t) answer)) ⊎ GivesUp z t u
gave_or_up z f m u t answer (Ok v) is room ok err = inl (grown_on z m u (e.Give (number_of t) answer) (room ∙ ap roomy is) ok)
gave_or_up z f m u t answer (Err v) is room ok err = inr (record { cause = Some s.Mem; innocent = mem_no_lane; is = grown_on z m u (lost (number_of t)) (room ∙ ap roomy is) err })
