-- How a run lies in memory.
use Rattle.std.specs.Prelude.{◌≡◌, ◌≤◌, ◌+◌, ◌*◌, ℕ, suc, List, length, cond, is_none, vec_capacity}
use Rattle.std.specs.declared.option.Option.TheVariants.{None}
use Rattle.nf_graph.specs.declared.node.Node.{Node}
use Rattle.nf_machine.specs.State.{State}
use Rattle.nf_flight.specs.Inputs.{inputs_at}
use Rattle.nf_flow.specs.Seen.{Seen, state_of}
use Rattle.nf_flow.specs.Questions.{inputs_in}
use Rattle.nf_flow.specs.Stopped.{IsStop}
use Rattle.nf_flow.specs.Parts.{IsParts}
use Rattle.nf_flow.specs.declared.log.Log.{Log}
use Rattle.nf_flow.specs.declared.parts.Parts.{Parts}

-- what contracts see of a run
abbrev pub seen : List Node → Log → Seen
seen graph log = record { graph = graph; history = log.history.items; room = log.room }

-- the state after the log
abbrev pub state_in : List Node → Log → State
state_in graph log = state_of (seen graph log)

-- the places of the history that are kept: one for the Abort of each take in flight, and one for what stops the run
abbrev pub kept_places : State → ℕ
kept_places s = length s.tickets + cond (is_none s.stop) 1 0

-- An event takes a place of its own, and a second one if it is a Take
pub record IsFlow (graph : List Node) (p : Parts) (log : Log) : Type 0 where
  pub parts : IsParts graph (state_in graph log) p
  pub stop : IsStop log.history.items log.stop (state_in graph log).stop
  pub places : length log.history.items + 2 * log.room + kept_places (state_in graph log) ≤ vec_capacity log.history
  -- the inputs that takes of processes took, by number
  pub inputs : (t : ℕ) → inputs_at log.inputs t ≡ inputs_in (seen graph log) t
  pub numbered : (state_in graph log).stop ≡ None → suc (length log.inputs) ≡ (state_in graph log).next
