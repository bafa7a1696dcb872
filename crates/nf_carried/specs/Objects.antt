-- The objects that a call works with, and what it came to.
use Rattle.std.specs.Prelude.{ℕ, List, IfSome, Result}
use Rattle.std.specs.declared.option.Option.{Option}
use Rattle.nf_host.specs.Files.{Files}
use Rattle.nf_machine.specs.declared.event.Event.{Event}
use Rattle.nf_ran.specs.Serial.{LaneNow}
use Rattle.nf_ends.specs.declared.end.End.{End}
use Rattle.nf_ends.specs.declared.writes.Output.{Output}
use Rattle.nf_ran.specs.Ran.{KeeperNow}

-- a host's files, if it tells them, and how often it failed
pub record HostNow : Type 0 where
  pub files : Option Files
  pub faults : ℕ

abbrev pub host_now : Option Files → ℕ → HostNow
host_now files faults = record { files = files; faults = faults }

-- those that work: the keeper, the lanes that run the tasks, and the host in which published files are copied
pub record Hands : Type 0 where
  pub keeper : KeeperNow
  pub lanes : List LaneNow
  pub host : HostNow

abbrev pub hands : KeeperNow → List LaneNow → HostNow → Hands
hands keeper lanes host = record { keeper = keeper; lanes = lanes; host = host }

-- what was written to a sink, if it tells that, and how often it failed
pub record SinkNow : Type 0 where
  pub written : Option (List ℕ)
  pub faults : ℕ

abbrev pub sink_now : Option (List ℕ) → ℕ → SinkNow
sink_now written faults = record { written = written; faults = faults }

pub record Objects : Type 0 where
  pub hands : Hands
  pub sink : SinkNow

abbrev pub objects : Hands → SinkNow → Objects
objects h sink = record { hands = h; sink = sink }

-- P of what was written before and after, if the sink tells that
abbrev pub OnWritten : SinkNow → SinkNow → (List ℕ → List ℕ → Type 0) → Type 0
OnWritten before after P = IfSome before.written (λ old. IfSome after.written (λ new. P old new))

-- ---- what a call came to

-- Of its work: the events, the Dones and Seens of its lanes, what is to be written or the end of a refusal, and those that
-- worked afterwards
pub record Worked (D S : Type 0) : Type 0 where
  pub history : List Event
  pub dones : List D
  pub seens : List S
  pub outcome : Result Output End
  pub after : Hands

-- of the whole: its end, its events, the Dones and Seens of its lanes, and the objects afterwards
pub record CallEnd (D S : Type 0) : Type 0 where
  pub end : End
  pub history : List Event
  pub dones : List D
  pub seens : List S
  pub after : Objects
