use Rattle.image_read.specs.Records.{journal_in, journal_of}
use Rattle.image_read.proofs.reading.read_journal.Goals as goal

pub returns-clause-answer : goal.returns-clause-answer
unfolding journal_of journal_in
returns-clause-answer g c = c.with_volume.ensures.answer
