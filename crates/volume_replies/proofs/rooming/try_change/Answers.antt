use Rattle.std.proofs.Common.{sym, subst, Result}
use Rattle.std.specs.Prelude.{◌==◌}
use Rattle.tree_model.specs.declared.reply.Reply.{Reply}
use Rattle.volume_sync.specs.volume_core.working_volume.declared.fault.DoFault.{DoFault}
use Rattle.volume_replies.specs.Replies.{IsTried}
use Rattle.volume_replies.proofs.Trying.{untried, once, used_same}
use Rattle.volume_replies.proofs.Roomed.{has_step}
use Rattle.volume_replies.proofs.rooming.try_change.Goals as goal

pub returns-then-not-may_change : goal.returns-then-not-may_change
returns-then-not-may_change g c = record { tried = untried g.D.Device.gives g.D.Device.sector_count g.D.Device.moment_of g.D.Device.fault_count g.D.Device.changes_of c.args.op.now c.args.stamp c.args.volume.now 0 0 }

pub returns : goal.returns
returns g c = record {
  tried = subst (λ (r : Result Reply DoFault). IsTried g.D.Device.gives g.D.Device.sector_count g.D.Device.moment_of g.D.Device.fault_count g.D.Device.changes_of c.args.op.now c.args.stamp r c.args.volume.now c.change-tried.new.self) (sym c.settled.ensures)
      (once g.D.Device.gives g.D.Device.sector_count g.D.Device.moment_of g.D.Device.fault_count g.D.Device.changes_of c.args.op.now c.args.stamp c.change-tried.result c.args.volume.now c.change-tried.new.self c.change-tried.ensures.does c.change-tried.ensures.tree
      c.change-tried.ensures.table c.change-tried.ensures.streams c.change-tried.ensures.unknown c.change-tried.ensures.counts c.change-tried.ensures.history c.change-tried.ensures.sectors c.facts-before.ensures.kept c.facts-after.ensures.kept
      (c.facts-after.result.pages_used == c.facts-before.result.pages_used)
      (used_same c.facts-after.result.pages_used c.facts-before.result.pages_used _ _ c.facts-after.ensures.but_next.used c.facts-before.ensures.but_next.used)
      (has_step c.args.op.now c.requires.changes (g.D.Device.gives c.args.volume.now.store.device) c.args.volume.now.store.state c.args.volume.now.map c.args.volume.now.table c.args.volume.now.streams c.known.ensures.ready));
}
