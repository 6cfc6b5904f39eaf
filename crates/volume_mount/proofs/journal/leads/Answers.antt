use Rattle.std.proofs.Common.{◌∙◌}
use Rattle.volume_mount.proofs.Leading.{leads_where_same}
use Rattle.volume_mount.proofs.journal.leads.Goals as goal

pub returns : goal.returns
returns c = c.has_same.ensures ∙ leads_where_same c.args.up.now c.args.links.now c.args.directory c.args.part.now
