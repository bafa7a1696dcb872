-- Why a run in memory is stopped.
use Rattle.std.specs.Prelude.{◌≡◌, ◌<◌, ℕ, Bool, List, true, false, length, slice_index_or, is_some, option_map}
use Rattle.std.specs.declared.option.Option.{Option}
use Rattle.std.specs.declared.option.Option.TheVariants.{None, Some}
use Rattle.nf_bag.specs.declared.fault.OpFault.{OpFault}
use Rattle.nf_opstream.specs.Fault.{fault_of}
use Rattle.nf_machine.specs.declared.event.Event.{Event}
use Rattle.nf_machine.specs.declared.event.Event.TheVariants as e
use Rattle.nf_machine.specs.declared.stop.Stop.{Stop}
use Rattle.nf_machine.specs.declared.stop.Stop.TheVariants as s
use Rattle.nf_machine.specs.Event.{PlainStop, stop_of}
use Rattle.nf_flow.specs.declared.stopped.Stopped.{Stopped}
use Rattle.nf_flow.specs.declared.stopped.Stopped.TheVariants as st

-- the fault isn't want of memory
abbrev pub IsNamedFault : OpFault → Type 0
IsNamedFault fault = is_some (fault_of fault) ≡ true

-- an operator's want of memory is a stop by Mem, never by the operator
abbrev pub IsNamed : Stop → Type 0
IsNamed (s.Charge sum) = Unit {0}
IsNamed (s.Op node fault) = IsNamedFault fault
IsNamed (s.Item node item fault) = Unit {0}
IsNamed (s.Task node inputs n fault) = Unit {0}
IsNamed (s.Outside outside) = Unit {0}
IsNamed s.Mem = Unit {0}

abbrev pub IsNamedIfAny : Option Stop → Type 0
IsNamedIfAny None = Unit {0}
IsNamedIfAny (Some stop) = IsNamed stop

-- the cause of an Abort
abbrev pub cause_of : Event → Option Stop
cause_of (e.Pass port) = None
cause_of (e.Take node port place ticket n) = None
cause_of (e.Give ticket answer) = None
cause_of (e.Start ticket cause) = None
cause_of (e.Reuse ticket report outs) = None
cause_of (e.Finish ticket report outs) = None
cause_of (e.Close node) = None
cause_of (e.Abort ticket cause) = cause
cause_of e.Halt = None

abbrev pub is_stopped_by : Stopped → Bool
is_stopped_by st.No = false
is_stopped_by (st.Own stop) = true
is_stopped_by (st.At place) = true

-- what the run is stopped by: a stop of its own, or the cause of the Abort at a place of the history
abbrev pub stop_in : List Event → Stopped → Option Stop
stop_in history st.No = None
stop_in history (st.Own stop) = Some stop
stop_in history (st.At place) = cause_of (slice_index_or history place e.Halt)

-- an Abort with a cause stands at the place
pub record IsAbortAt (history : List Event) (place : ℕ) : Type 0 where
  pub below : place < length history
  pub cause : is_some (cause_of (slice_index_or history place e.Halt)) ≡ true

abbrev pub IsAbort : List Event → Stopped → Type 0
IsAbort history st.No = Unit {0}
IsAbort history (st.Own stop) = Unit {0}
IsAbort history (st.At place) = IsAbortAt history place

-- this is why the run is stopped
pub record IsStop (history : List Event) (stop : Stopped) (why : Option PlainStop) : Type 0 where
  pub abort : IsAbort history stop
  pub named : IsNamedIfAny (stop_in history stop)
  pub is : option_map stop_of (stop_in history stop) ≡ why

-- the first stop counts
abbrev pub first_stop : Stopped → Stopped → Stopped
first_stop st.No new = new
first_stop (st.Own stop) new = st.Own stop
first_stop (st.At place) new = st.At place

-- a stop of the run's own, if there is one
abbrev pub stopped_by : Stopped → Option Stop → Stopped
stopped_by old None = old
stopped_by old (Some stop) = first_stop old (st.Own stop)
