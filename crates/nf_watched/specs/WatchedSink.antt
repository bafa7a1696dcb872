-- What a `WatchedSink` passes its calls on to.
use Rattle.nf_watched.specs.declared.watched_sink.WatchedSink.{WatchedSink}

-- the sink that its calls go to
abbrev pub inner_of : {I R : Type 0} → WatchedSink I R → I
inner_of s = s.inner
