use Rattle.image_read.proofs.Entries.{entries_given}
use Rattle.image_read.proofs.records.all_entries.Goals as goal

pub returns-in-Ok-clause-answer : goal.returns-in-Ok-clause-answer
returns-in-Ok-clause-answer g c =
    entries_given _ c.args.per c.args.extents.now c.args.first _ c.in-Ok.pulled c.fewer.result c.requires.first c.in-Ok.ensures.value c.fewer.ensures.cause c.fewer.ensures.few
