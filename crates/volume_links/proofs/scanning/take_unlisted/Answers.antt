use Rattle.volume_links.proofs.Seeing.{file}
use Rattle.volume_links.proofs.scanning.take_unlisted.Goals as goal

pub returns : goal.returns
returns c =
    file c.args.per c.args.number c.args.file.now c.in_ok-cut.cut c.or_rule.result c.args.links.now.items c.push_record.new.links.items c.requires.base c.requires.unlisted c.in_ok-push_record.ensures c.in_ok-cut.ensures c.or_rule.ensures
