-- What a `FuseKeeper` keeps, and what its failing puts leave.
use Rattle.std.specs.Prelude.{ℕ, ◌+◌, ◌-◌, ◌^◌, ◌==◌, min, if◌then◌else◌, List, Bool, take, None, Some}
use Rattle.std.specs.declared.option.Option.{Option}
use Rattle.nf_keeper.specs.Held.{Held, HoldTheSame, IsStopImage, Both}
use Rattle.nf_keeper.specs.declared.fuse_keeper.FuseKeeper.{FuseKeeper}

-- what a put that fails leaves: without a front all as it was, else what a stopped put of that front leaves
abbrev pub LeavesFront : List ℕ → List ℕ → Option ℕ → Held → Held → Type 0
LeavesFront key bytes None m n = HoldTheSame m n
LeavesFront key bytes (Some k) m n = IsStopImage m key (take k bytes) n

module _ {K : Type 0} where
  -- the keeper that its calls go to
  abbrev pub inner_of : FuseKeeper K → K
  inner_of f = f.inner

  -- how many more calls it passes
  abbrev pub calls_of : FuseKeeper K → ℕ
  calls_of f = f.calls

  -- whether its calls fail from now on
  abbrev pub is_blown : FuseKeeper K → Bool
  is_blown f = calls_of f == 0

  -- how many bytes a failing put leaves, if it leaves some
  abbrev pub front_of : FuseKeeper K → Option ℕ
  front_of f = f.front

  -- how often it has failed by itself
  abbrev pub failed_of : FuseKeeper K → ℕ
  failed_of f = f.failed

  -- the same after its next call
  abbrev pub failed_after : FuseKeeper K → ℕ
  failed_after f = if is_blown f then min (failed_of f + 1) (2 ^ 64 - 1) else failed_of f

  -- what the keeper that its calls go to reveals, by `held`
  abbrev pub held_of : (K → Option Held) → FuseKeeper K → Option Held
  held_of held f = held f.inner

  -- how often it has failed, by itself or as the keeper that its calls go to, whose count is `faults`
  abbrev pub count_of : (K → ℕ) → FuseKeeper K → ℕ
  count_of faults f = min (faults f.inner + f.failed) (2 ^ 64 - 1)

  -- what a failing put leaves
  abbrev pub FailsToPut : (K → Option Held) → List ℕ → List ℕ → FuseKeeper K → FuseKeeper K → Type 0
  FailsToPut held key bytes f g = Both (held_of held f) (held_of held g) (LeavesFront key bytes (front_of f))
