-- What a `MemHost` holds, and what a call leaves of its counts.
use Rattle.std.specs.Prelude.{◌≡◌, ℕ, ◌+◌, ◌-◌, ◌^◌, min, List, map, Bool, true, false, ◌==◌, if◌then◌else◌, string_bytes, Result, Ok, Err}
use Rattle.std.specs.List.{list_any}
use Rattle.nf_host.specs.Children.{Deeds}
use Rattle.nf_host.specs.Files.{Files}
use Rattle.nf_host.specs.MemFiles.{files_in, named_in}
use Rattle.nf_host.specs.Starts.{Start}
use Rattle.nf_host.specs.declared.host.HostRefusal.{HostRefusal}
use Rattle.nf_host.specs.declared.host.HostRefusal.TheVariants.{Failed, Mem}
use Rattle.nf_host.specs.declared.mem_host.Calls.{Calls}
use Rattle.nf_host.specs.declared.mem_host.MemHost.{MemHost}
use Rattle.nf_host.specs.declared.mem_host.MemStart.{MemStart}

-- its files
abbrev pub files_of : MemHost → Files
files_of h = files_in h.files

-- what its scripts do, by their digests
abbrev pub children_of : MemHost → Deeds
children_of h = h.children.items

-- a child that ended, as contracts see it
abbrev pub start_seen : MemStart → Start
start_seen s =
    record { folder = string_bytes s.folder; status = s.status; files = named_in s.files.items; left = named_in s.left.items }

-- the children that ended
abbrev pub started_of : MemHost → List Start
started_of h = map start_seen h.started.items

-- the numbers of the calls that fail
abbrev pub failing_of : MemHost → List ℕ
failing_of h = h.calls.failing.items

-- how many calls it has had
abbrev pub calls_of : MemHost → ℕ
calls_of h = h.calls.count

-- how often it has failed
abbrev pub faults_of : MemHost → ℕ
faults_of h = h.calls.faults

-- whether the next call fails
abbrev pub is_failing : Calls → Bool
is_failing c = list_any (λ call. call == c.count) c.failing.items

-- whether its next call fails
abbrev pub is_next_failing : MemHost → Bool
is_next_failing h = is_failing h.calls

-- whether the answer is Failed
abbrev pub is_failed : {T : Type 0} → Result T HostRefusal → Bool
is_failed (Ok x) = false
is_failed (Err Failed) = true
is_failed (Err Mem) = false

-- a call, and its failure if it failed, was counted; which calls fail is as before
pub record AreCounted (before after : Calls) (failed : Bool) : Type 0 where
  pub count : after.count ≡ min (before.count + 1) (2 ^ 64 - 1)
  pub faults : after.faults ≡ (if failed then min (before.faults + 1) (2 ^ 64 - 1) else before.faults)
  pub failing : after.failing ≡ before.failing

-- the same of a host; what scripts do is as before
pub record IsCounted (before after : MemHost) (failed : Bool) : Type 0 where
  pub calls : AreCounted before.calls after.calls failed
  pub children : children_of after ≡ children_of before
