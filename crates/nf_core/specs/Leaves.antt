-- Steps of a flow alone.
use Rattle.std.specs.Prelude.{◌≡◌, ℕ, true, false, List, is_some, if◌then◌else◌}
use Rattle.std.specs.declared.option.Option.{Option}
use Rattle.std.specs.declared.option.Option.TheVariants.{None, Some}
use Rattle.sha2.specs.Sha256.{sha256}
use Rattle.nf_job.specs.JobText.{old_text_of}
use Rattle.nf_job.specs.declared.parts.JobParts.{JobParts}
use Rattle.nf_machine.specs.declared.event.Event.TheVariants as e
use Rattle.nf_machine.specs.declared.event.Cause.{Cause}
use Rattle.nf_machine.specs.declared.stop.Stop.{Stop}
use Rattle.nf_machine.specs.declared.stop.Stop.TheVariants as s
use Rattle.nf_flight.specs.declared.ticket.Ticket.{Ticket}
use Rattle.nf_flight.specs.Ticket.{number_of}
use Rattle.nf_keeper.specs.Held.{Held}
use Rattle.nf_flow.specs.Seen.{Seen, state_of, grown, roomy, MayAdd}
use Rattle.nf_flow.specs.Questions.{IsStarted}

-- why a ticket is given up that can't go on: for nothing if the run is stopped, else for want of memory
abbrev pub up_cause : Seen → Option Stop
up_cause z = if is_some (state_of z).stop then None else Some s.Mem

-- while the run goes on, the attempt may start if it isn't started
abbrev pub MayStart : Seen → Ticket → Cause → Type 0
MayStart z t cause = is_some (state_of z).stop ≡ false → IsStarted z t false → MayAdd z (e.Start (number_of t) cause)

-- the run goes on, and the attempt isn't started
pub record IsFresh (z : Seen) (t : Ticket) : Type 0 where
  pub running : is_some (state_of z).stop ≡ false
  pub fresh : IsStarted z t false

-- the same, and there is room now
pub record CanStart (old : Seen) (t : Ticket) (new : Seen) : Type 0 where
  pub room : new ≡ roomy old
  pub running : is_some (state_of old).stop ≡ false
  pub fresh : IsStarted old t false

-- the attempt is started, and there is room now
pub record CanEnd (old : Seen) (t : Ticket) (new : Seen) : Type 0 where
  pub room : new ≡ roomy old
  pub started : IsStarted old t true

-- the run goes on, and there is room now
pub record CanGoOn (old new : Seen) : Type 0 where
  pub room : new ≡ roomy old
  pub running : is_some (state_of old).stop ≡ false

-- the attempt started, or the ticket was given up
abbrev pub StartsOrUp : Seen → Ticket → Cause → Option Ticket → Seen → Type 0
StartsOrUp old t cause (Some u) new =
    (u ≡ t) × (new ≡ grown old (e.Start (number_of t) cause)) × (is_some (state_of old).stop ≡ false) × IsStarted old t false
StartsOrUp old t cause None new = new ≡ grown old (e.Abort (number_of t) (up_cause old))

-- the bytes at the key of a job's older text, if it has one
abbrev pub held_for : Held → Option (List ℕ) → Option (List ℕ)
held_for m None = None
held_for m (Some text) = m (sha256 text)

abbrev pub older_in : Held → JobParts → Option (List ℕ)
older_in m job = held_for m (old_text_of job)
