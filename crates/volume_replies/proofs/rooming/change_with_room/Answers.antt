use Rattle.std.proofs.Common.{Ok, Err, subst}
use Rattle.volume_sync.specs.volume_core.working_volume.declared.fault.DoFault.{DoFault}
use Rattle.volume_sync.specs.volume_core.working_volume.declared.fault.DoFault.TheVariants.{Unknown}
use Rattle.volume_replies.specs.Replies.{IsTried}
use Rattle.volume_replies.proofs.Roomed.{has_step, behind_short, replied}
use Rattle.volume_replies.proofs.rooming.change_with_room.Goals as goal

pub returns-in-Err-NeedsRoom-clause-replies : goal.returns-in-Err-NeedsRoom-clause-replies
returns-in-Err-NeedsRoom-clause-replies g c =
    behind_short g.D.Device.gives g.D.Device.sector_count g.D.Device.moment_of g.D.Device.fault_count g.D.Device.changes_of c.args.op.now c.args.stamp c.in-Err-NeedsRoom.pages c.in-Err-NeedsRoom.field-0-1 (Ok c.make_and_try.result) c.args.volume.now c.try_change.new.volume c.make_and_try.new.volume
    (subst (λ (e : DoFault). IsTried g.D.Device.gives g.D.Device.sector_count g.D.Device.moment_of g.D.Device.fault_count g.D.Device.changes_of c.args.op.now c.args.stamp (Err e) c.args.volume.now c.try_change.new.volume) c.in-Err-NeedsRoom.field-0-is c.in-Err-NeedsRoom.ensures.tried) c.make_and_try.ensures.replies

pub returns-in-Err-Unknown-clause-replies : goal.returns-in-Err-Unknown-clause-replies
returns-in-Err-Unknown-clause-replies g c =
    replied g.D.Device.gives g.D.Device.sector_count g.D.Device.moment_of g.D.Device.fault_count g.D.Device.changes_of c.args.op.now c.args.stamp (Err Unknown) c.args.volume.now c.try_change.new.volume
    (has_step c.args.op.now c.requires.changes (g.D.Device.gives c.args.volume.now.store.device) c.args.volume.now.store.state c.args.volume.now.map c.args.volume.now.table c.args.volume.now.streams c.known.ensures.ready)
    (subst (λ (e : DoFault). IsTried g.D.Device.gives g.D.Device.sector_count g.D.Device.moment_of g.D.Device.fault_count g.D.Device.changes_of c.args.op.now c.args.stamp (Err e) c.args.volume.now c.try_change.new.volume) c.in-Err-Unknown.field-0-is c.in-Err-Unknown.ensures.tried)
