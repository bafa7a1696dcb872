-- What a `MeetLane` holds.
use Rattle.std.specs.Prelude.{ℕ, ◌+◌, ◌-◌, ◌^◌, min}
use Rattle.cases_scripts.specs.declared.meet.MeetLane.{MeetLane}

module _ {R L : Type 0} where
  -- the lane that its runs go to
  abbrev pub inner_of : MeetLane R L → L
  inner_of l = l.inner

  -- how many of its runs met nobody
  abbrev pub unmet_of : MeetLane R L → ℕ
  unmet_of l = l.unmet

  -- what the lane that its runs go to tells
  abbrev pub told_by : {T : Type 0} → (L → T) → MeetLane R L → T
  told_by tells l = tells l.inner

  -- how often it has failed: as the lane that its runs go to, whose count is `faults`, or since it met nobody
  abbrev pub count_of : (L → ℕ) → MeetLane R L → ℕ
  count_of faults l = min (faults l.inner + l.unmet) (2 ^ 64 - 1)
