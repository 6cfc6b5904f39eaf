-- What is read of the live log.
use Rattle.log_page.specs.RecordPages.{Reading}
use Rattle.log_reading.specs.declared.live.LiveLog.{LiveLog}

-- the entries, and the place of one of another shape
abbrev pub reading_of : LiveLog → Reading
reading_of live = record { entries = live.entries.items; foreign = live.foreign }
