-- What is written down of a run.
use Rattle.std.specs.Prelude.{◌≡◌, ◌<◌, ◌++◌, [], ◌∷◌, length, vec_capacity}
use Rattle.nf_machine.specs.declared.event.Event.{Event}
use Rattle.nf_flow.specs.declared.log.Log.{Log}
use Rattle.nf_flow.specs.declared.stopped.Stopped.{Stopped}

-- a place for one event is free
abbrev pub HasPlace : Log → Type 0
HasPlace log = length log.history.items < vec_capacity log.history

-- one event more, in a place that was free; and this is why the run is stopped now
pub record IsAdded (old : Log) (x : Event) (stop : Stopped) (new : Log) : Type 0 where
  pub history : new.history.items ≡ old.history.items ++ x ∷ []
  pub capacity : vec_capacity new.history ≡ vec_capacity old.history
  pub inputs : new.inputs ≡ old.inputs
  pub stop_is : new.stop ≡ stop
  pub room : new.room ≡ 0
