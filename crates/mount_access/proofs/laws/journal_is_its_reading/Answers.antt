use Rattle.mount_access.proofs.Journaled.{journal_is_reading}
use Rattle.mount_access.proofs.laws.journal_is_its_reading.Goals as goal

pub returns : goal.returns
returns c = journal_is_reading
