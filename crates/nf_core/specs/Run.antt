-- What holds of a run between two calls.
use Rattle.std.specs.Prelude.{◌≡◌, ◌≤◌, ℕ, List, Bool}
use Rattle.std.specs.List.{Contains}
use Rattle.std.specs.declared.option.Option.{Option}
use Rattle.std.specs.declared.option.Option.TheVariants.{Some}
use Rattle.nf_graph.specs.Rules.{IsRules}
use Rattle.nf_machine.specs.Event.{abort, outside_stop}
use Rattle.nf_machine.specs.History.{IsHistory}
use Rattle.nf_machine.specs.declared.stop.Outside.TheVariants.{Keeper}
use Rattle.nf_stored.specs.Attempts.{TellsApart}
use Rattle.nf_host.specs.Faults.{Rose}
use Rattle.nf_keeper.specs.Held.{Held, Both}
use Rattle.nf_lane.specs.World.{World}
use Rattle.nf_flow.specs.Seen.{Seen, plain_of, events_of}
use Rattle.nf_core.specs.Opening.{Opening, IsSteady}
use Rattle.nf_core.specs.Told.{Ending, told_in, finished_by, reused_by, Match}
use Rattle.nf_core.specs.Records.{writes_by, Agrees, IsSound}
use Rattle.nf_core.specs.Causes.{AreWarranted}

-- what a run keeps: its flow, the Dones and Seens of its lanes, and what the keeper tells
pub record Parts (D S : Type 0) : Type 0 where
  pub flow : Seen
  pub dones : List D
  pub seens : List S
  pub resumed : Bool
  pub held : Option Held
  pub faults : ℕ

-- The parts of a run that began so. done and seen say what is known of a Done and a Seen beside the attempt that it ended
pub record IsRun (F : Opening) {D S : Type 0} (done : D → Ending → Type 0) (seen : S → Ending → Type 0) (z : Parts D S) : Type 0 where
  pub graph : z.flow.graph ≡ F.graph
  pub resumed : z.resumed ≡ F.resumed
  pub rules : IsRules F.rules
  pub apart : TellsApart F.rules
  -- the history is lawful under the rules
  pub lawful : IsHistory (plain_of z.flow) F.rules (events_of z.flow)
  -- each Finish has its own genuine Done and each Reuse its own genuine Seen, in their order
  pub finished : Match done z.dones (told_in finished_by (plain_of z.flow) (events_of z.flow))
  pub reused : Match seen z.seens (told_in reused_by (plain_of z.flow) (events_of z.flow))
  -- each start has its true cause, each reuse its record, and each finish its world
  pub warranted : AreWarranted F (plain_of z.flow) (events_of z.flow)
  -- a keeper that tells holds what the history tells, and stays sound
  pub records : Both F.held z.held (λ m n. Agrees m (told_in (writes_by F.rules) (plain_of z.flow) (events_of z.flow)) n)
  pub sound : (w : World) → IsSteady w F → IsSound w F.held → IsSound w z.held
  -- the keeper is blamed only if its count rose
  pub later : F.faults ≤ z.faults
  pub blamed : (t : ℕ) → Contains (events_of z.flow) (abort t (Some (outside_stop Keeper))) → Rose F.faults z.faults
