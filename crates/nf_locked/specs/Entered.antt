-- What one holding of the lock made of a run.
use Rattle.std.specs.Prelude.{◌≡◌, ◌⊎◌, Bool, true, false, is_none, is_some}
use Rattle.std.specs.declared.option.Option.{Option}
use Rattle.std.specs.declared.option.Option.TheVariants.{None, Some}
use Rattle.nf_graph.specs.Rules.{Outs}
use Rattle.nf_machine.specs.declared.event.Cause.{Cause}
use Rattle.nf_machine.specs.declared.event.Event.{Event}
use Rattle.nf_machine.specs.declared.event.Event.TheVariants as e
use Rattle.nf_machine.specs.declared.event.Move.{Move}
use Rattle.nf_machine.specs.declared.event.Move.TheVariants as m
use Rattle.nf_flow.specs.Ready.{IsReady}
use Rattle.nf_flight.specs.declared.ticket.Ticket.{Ticket}
use Rattle.nf_flight.specs.Ticket.{next_attempt, number_of}
use Rattle.nf_flow.specs.Seen.{Seen, grown, lost, state_of, take_of}
use Rattle.nf_flow.specs.Questions.{IsFlying}
use Rattle.nf_core.specs.Calls.{Ends, GivesUp}
use Rattle.nf_locked.specs.declared.work.Work.{Work}
use Rattle.nf_locked.specs.declared.work.Work.TheVariants as w
use Rattle.nf_locked.specs.declared.work.Begun.{Begun}
use Rattle.nf_locked.specs.declared.work.Begun.TheVariants as b

-- ---- what may come in place of an event

-- the run is stopped for want of memory, if it wasn't stopped before
abbrev pub Halts : Seen → Seen → Type 0
Halts old new = ((is_some (state_of old).stop ≡ true) × (new ≡ old)) ⊎ (new ≡ grown old e.Halt)

-- the ticket was given up, and no lane is blamed for it, or it wasn't found and the run is halted
abbrev pub Drops : Seen → Ticket → Seen → Type 0
Drops old t new = GivesUp old t new ⊎ Halts old new

-- ---- the ticket of an operator or of a task

-- this event was entered, or the ticket was dropped
abbrev pub EntersOrDrops : Seen → Ticket → Event → Seen → Type 0
EntersOrDrops old t x new = (new ≡ grown old x) ⊎ Drops old t new

-- this event ended the attempt, and the ticket is out for the next one exactly if its task is tried again; or it was
-- dropped
abbrev pub EndsOrDrops : Seen → Ticket → Event → Outs → Bool → Seen → Type 0
EndsOrDrops old t x outs true new = Ends old t x outs (Some (next_attempt t)) new
EndsOrDrops old t x outs false new = Ends old t x outs None new ⊎ Drops old t new

-- the attempt started, or the run is as it was and a look is due, or the ticket was dropped
abbrev pub Begins : Seen → Ticket → Begun → Seen → Type 0
Begins old t b.Run new = (cause : Cause) × (new ≡ grown old (e.Start (number_of t) cause))
Begins old t (b.Look r) new = (is_none (state_of old).stop ≡ true) × (new ≡ old)
Begins old t b.Over new = Drops old t new

-- ---- moves

-- whether there is a move now
abbrev pub TellsReady : Seen → Bool → Type 0
TellsReady z r = (next : Option Move) × IsReady z.graph (state_of z) next × (r ≡ is_some next)

-- this Take made a ticket that is in flight now
pub record IsTakenBy (old : Seen) (x : Event) (t : Ticket) (new : Seen) : Type 0 where
  pub is : new ≡ grown old x
  pub number : number_of t ≡ (state_of old).next
  pub flying : IsFlying new t

-- A Take left this work. Where it left nothing, there was no memory: the run is halted, or the ticket was given up at
-- once
abbrev pub MakesTake : Seen → Event → Work → Seen → Type 0
MakesTake old x (w.Item t) new = IsTakenBy old x t new
MakesTake old x (w.Task t) new = IsTakenBy old x t new
MakesTake old x w.Moved new = ⊥
MakesTake old x w.Nothing new = Halts old new ⊎ (new ≡ grown (grown old x) (lost (state_of old).next))

-- a Pass or a Close left nothing to do. Where it wasn't made, there was no memory, and the run is halted
abbrev pub MakesMove : Seen → Event → Work → Seen → Type 0
MakesMove old x w.Moved new = (new ≡ grown old x) ⊎ (new ≡ grown old e.Halt)
MakesMove old x (w.Item t) new = ⊥
MakesMove old x (w.Task t) new = ⊥
MakesMove old x w.Nothing new = ⊥

-- the move was made, and left this work
abbrev pub Makes : Seen → Move → Work → Seen → Type 0
Makes old (m.Pass port) work new = MakesMove old (e.Pass port) work new
Makes old (m.Take node port place) work new = MakesTake old (take_of old node port place) work new
Makes old (m.Close node) work new = MakesMove old (e.Close node) work new

-- the same of a move, if there was one
abbrev pub MakesIfAny : Seen → Option Move → Work → Seen → Type 0
MakesIfAny old None work new = (work ≡ w.Nothing) × (new ≡ old)
MakesIfAny old (Some next) work new = Makes old next work new

-- the move that P allows was made, or there is none
pub record Steps (P : Option Move → Type 0) (old : Seen) (work : Work) (new : Seen) : Type 0 where
  pub next : Option Move
  pub allowed : P next
  pub made : MakesIfAny old next work new
