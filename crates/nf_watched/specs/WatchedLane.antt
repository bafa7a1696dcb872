-- What a `WatchedLane` passes its calls on to.
use Rattle.nf_watched.specs.declared.watched_lane.WatchedLane.{WatchedLane}

-- the lane that its calls go to
abbrev pub inner_of : {I R : Type 0} → WatchedLane I R → I
inner_of l = l.inner
