use Rattle.std.proofs.Common.{Result, Ok, sym, subst}
use Rattle.tree_model.specs.declared.reply.Reply.{Reply}
use Rattle.volume_sync.specs.volume_core.working_volume.declared.fault.DoFault.{DoFault}
use Rattle.volume_replies.specs.Replies.{RepliesOn, IsTried}
use Rattle.volume_replies.proofs.Trying.{untried}
use Rattle.volume_replies.proofs.Roomed.{has_step, tried_again, no_room, no_step, replied}
use Rattle.volume_replies.proofs.rooming.make_and_try.Goals as goal

pub loop-pages-init : goal.loop-pages-init
loop-pages-init g c = untried g.D.Device.gives g.D.Device.sector_count g.D.Device.moment_of g.D.Device.fault_count g.D.Device.changes_of c.args.op.now c.args.stamp c.args.volume.now c.args.pages 0

pub returns-in-Ok-false-clause-replies : goal.returns-in-Ok-false-clause-replies
returns-in-Ok-false-clause-replies g c =
    no_room g.D.Device.gives g.D.Device.sector_count g.D.Device.moment_of g.D.Device.fault_count g.D.Device.changes_of c.args.op.now c.args.stamp c.in-Some.pages c.in-Some.ensures.1 c.args.volume.now c.loop-pages.volume c.make_room.new.volume
    (has_step c.args.op.now c.requires.changes (g.D.Device.gives c.args.volume.now.store.device) c.args.volume.now.store.state c.args.volume.now.map c.args.volume.now.table c.args.volume.now.streams c.known.ensures.ready)
    (subst (λ (r : Result Reply DoFault). IsTried g.D.Device.gives g.D.Device.sector_count g.D.Device.moment_of g.D.Device.fault_count g.D.Device.changes_of c.args.op.now c.args.stamp r c.args.volume.now c.loop-pages.volume) c.in-Some.ensures.2 c.loop-pages.invariant) c.in-Ok-false.ensures.runs

pub returns-in-Err-clause-replies : goal.returns-in-Err-clause-replies
returns-in-Err-clause-replies g c =
    no_step g.D.Device.gives g.D.Device.sector_count g.D.Device.moment_of g.D.Device.fault_count g.D.Device.changes_of c.args.op.now c.args.stamp c.in-Some.pages c.in-Some.ensures.1 c.args.volume.now c.loop-pages.volume c.make_room.new.volume
    (has_step c.args.op.now c.requires.changes (g.D.Device.gives c.args.volume.now.store.device) c.args.volume.now.store.state c.args.volume.now.map c.args.volume.now.table c.args.volume.now.streams c.known.ensures.ready)
    (subst (λ (r : Result Reply DoFault). IsTried g.D.Device.gives g.D.Device.sector_count g.D.Device.moment_of g.D.Device.fault_count g.D.Device.changes_of c.args.op.now c.args.stamp r c.args.volume.now c.loop-pages.volume) c.in-Some.ensures.2 c.loop-pages.invariant) c.in-Err.ensures.runs

pub loop-pages-preserved : goal.loop-pages-preserved
loop-pages-preserved g c =
    tried_again g.D.Device.gives g.D.Device.sector_count g.D.Device.moment_of g.D.Device.fault_count g.D.Device.changes_of c.args.op.now c.args.stamp c.in-Some.pages c.in-Some.ensures.1 c.try_change-tried.result c.args.volume.now c.loop-pages.volume c.make_room.new.volume c.try_change-tried.new.volume
    (subst (λ (r : Result Reply DoFault). IsTried g.D.Device.gives g.D.Device.sector_count g.D.Device.moment_of g.D.Device.fault_count g.D.Device.changes_of c.args.op.now c.args.stamp r c.args.volume.now c.loop-pages.volume) c.in-Some.ensures.2 c.loop-pages.invariant)
    c.in-Ok-true.ensures.runs c.in-Ok-true.ensures.cause.unfailed c.try_change-tried.ensures.tried

pub returns-clause-replies : goal.returns-clause-replies
returns-clause-replies g c =
    subst (λ (r : Reply). RepliesOn g.D.Device.gives g.D.Device.sector_count g.D.Device.moment_of g.D.Device.changes_of c.args.op.now c.args.stamp (Ok r) c.args.volume.now c.loop-pages.volume) (sym c.reply_of.ensures)
    (replied g.D.Device.gives g.D.Device.sector_count g.D.Device.moment_of g.D.Device.fault_count g.D.Device.changes_of c.args.op.now c.args.stamp c.loop-pages.tried c.args.volume.now c.loop-pages.volume
    (has_step c.args.op.now c.requires.changes (g.D.Device.gives c.args.volume.now.store.device) c.args.volume.now.store.state c.args.volume.now.map c.args.volume.now.table c.args.volume.now.streams c.known.ensures.ready) c.loop-pages.invariant)
