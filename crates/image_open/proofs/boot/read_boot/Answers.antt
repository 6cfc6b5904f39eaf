use Rattle.image_open.proofs.Steps.{boot_read}
use Rattle.image_open.proofs.boot.read_boot.Goals as goal

pub returns-clause-answer : goal.returns-clause-answer
returns-clause-answer g c = boot_read _ c.body.new.out c.bytes.result.now c.boot_of.result c.bytes.ensures c.in_ok-body.ensures.body c.boot_of.ensures.answer
