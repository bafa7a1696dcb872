-- What a `WatchedKeeper` passes its calls on to.
use Rattle.nf_watched.specs.declared.watched_keeper.WatchedKeeper.{WatchedKeeper}

-- the keeper that its calls go to
abbrev pub inner_of : {I R : Type 0} → WatchedKeeper I R → I
inner_of k = k.inner
