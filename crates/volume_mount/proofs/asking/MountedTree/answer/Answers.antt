use Rattle.std.proofs.Common.{rules, ◌∙◌, arith}
use Rattle.volume_mount.specs.Trees.{tree_shown}
use Rattle.volume_mount.proofs.Replying.{reply_failed, reply_counts}
use Rattle.volume_mount.proofs.asking.MountedTree.answer.Goals as goal

pub returns-clause-fault : goal.returns-clause-fault
returns-clause-fault g c = λ fault.
    reply_failed (tree_shown c.args.self.now.mounted.now (g.D.Device.gives c.args.device.now)) c.reply_on.result g.D.Device.gives g.D.Device.sector_count g.D.Device.changes_of g.D.Device.fault_count g.D.Device.moment_of c.args.device.now _ _ _ _ _ _ fault (c.reply_on.ensures.kept.stays ∙ c.new-view.ensures.kept) (omega (arith, c.new-view.ensures.faults))
    (rw c.new-view.ensures.content at c.reply_on.ensures.counted) (search rules)

pub returns-clause-counted : goal.returns-clause-counted
returns-clause-counted g c = λ early.
    reply_counts (tree_shown c.args.self.now.mounted.now (g.D.Device.gives c.args.device.now)) c.reply_on.result g.D.Device.gives g.D.Device.sector_count g.D.Device.changes_of g.D.Device.fault_count g.D.Device.moment_of c.args.device.now _ _ _ _ _ _ (c.reply_on.ensures.kept.stays ∙ c.new-view.ensures.kept) c.new-view.ensures.faults c.reply_on.new.view.later
    (rw c.new-view.ensures.content at c.reply_on.ensures.counted) (search rules) early
