use Rattle.std.proofs.Common.{rules, ◌∙◌}
use Rattle.working_volume.specs.map_change.Parts.{live_parts}
use Rattle.working_volume.specs.volume_lookup.Known.{known_tree}
use Rattle.working_volume.specs.txn_core.Views.{present_content}
use Rattle.volume_core.proofs.Counting.{look_counts}
use Rattle.volume_core.proofs.looking.look_over.Goals as goal

pub returns-clause-counts : goal.returns-clause-counts
returns-clause-counts g c =
    look_counts (known_tree c.args.upper.now (live_parts c.args.live.now).volume (present_content (g.D.Device.gives c.args.store.now.device) c.args.store.now.state)) c.reply_over.result g.D.Device.gives g.D.Device.sector_count g.D.Device.changes_of g.D.Device.fault_count g.D.Device.moment_of c.args.store.now _ _ _ _ _ _
    (c.reply_over.ensures.kept.stays ∙ c.new-view.ensures.kept) c.new-view.ensures.faults c.reply_over.new.view.later (rw (c.new-volume.ensures.map, c.new-view.ensures.content) at c.reply_over.ensures.counted) (search rules)
