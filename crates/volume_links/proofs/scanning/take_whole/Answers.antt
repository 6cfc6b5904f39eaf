use Rattle.volume_links.proofs.Seeing.{unread}
use Rattle.volume_links.proofs.scanning.take_whole.Goals as goal

pub returns-in-Err : goal.returns-in-Err
returns-in-Err c = unread c.args.per c.args.number c.in-Err.fault c.args.body.now c.args.links.now.items c.unread.result c.unread.ensures c.in-Err.ensures.value
