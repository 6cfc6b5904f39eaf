use Rattle.volume_links.proofs.Seeing.{plain}
use Rattle.volume_links.proofs.scanning.take_used.Goals as goal

pub returns-then-branch : goal.returns-then-branch
returns-then-branch c = plain c.args.per c.args.number c.args.body.now c.args.links.now.items c.take_plain.new.links.items (c.in_ok-take_plain.ensures.plain c.if-branch.true)
