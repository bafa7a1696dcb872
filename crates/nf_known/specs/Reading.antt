-- How names are read.
use Rattle.nf_meaning.specs.Names as meaning
use Rattle.nf_known.specs.declared.reading.Reading.{Reading}
use Rattle.nf_known.specs.declared.reading.Reading.TheVariants.{BeforeRun, InRun, Unread}

abbrev pub reading_of : Reading → meaning.Reading
reading_of BeforeRun = meaning.before_run
reading_of InRun = meaning.in_run
reading_of Unread = meaning.unread
