use Rattle.image_open.specs.volume_map.Maps.{volume_in}
use Rattle.image_read.proofs.Entries.{placed}
use Rattle.image_read.proofs.records.place_on.Goals as goal

pub returns-clause-answer : goal.returns-clause-answer
returns-clause-answer g c = placed _ (volume_in c.args.map.now) c.in_ok-up.up c.named_place.result c.in_ok-up.ensures.value c.named_place.ensures.answer
