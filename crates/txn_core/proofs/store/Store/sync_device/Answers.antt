use Rattle.txn_state.specs.States.{facts_of}
use Rattle.txn_core.specs.Calls.{sync_facts, AfterSync}
use Rattle.txn_core.proofs.Calling.{sync_step}
use Rattle.txn_core.proofs.AfterCalls.{told_at, sync_kept, sync_told}
use Rattle.txn_core.proofs.Keeping.{step_of, stands_after, sync_result, sync_worded}
use Rattle.txn_core.proofs.store.Store.sync_device.Goals as goal

pub returns-clause-step : goal.returns-clause-step
returns-clause-step g c =
    step_of g.D.Device.sector_count g.D.Device.moment_of g.D.Device.changes_of (λ s. AfterSync c.sync-result.result (facts_of s.state)) (record { device = c.self.inside.device; state = c.self.inside.state; words = c.self.inside.words }) c.args.self.now
    (record { device = c.sync-result.new.device; state = c.sync-result.new.self; words = c.self.inside.words }) (sync_facts c.sync-result.result (facts_of c.self.inside.state)) c.self.view_is
    (sync_result c.sync-result.result c.self.inside.state c.sync-result.new.self c.sync-result.ensures.ok c.sync-result.ensures.err)
    (sync_step g.D.Device.changes_of g.D.Device.moment_of (g.D.Device.sector_count c.self.inside.device) (facts_of c.self.inside.state) c.sync-result.result c.self.inside.device c.sync-result.new.device (g.met.D.Device.values c.sync-result.new.device) c.sync-result.ensures.changes)

pub invariant_of-self : goal.invariant_of-self
invariant_of-self g c = (
  stands_after (g.D.Device.sector_count c.self.inside.device) (g.D.Device.sector_count c.sync-result.new.device) (g.D.Device.moment_of c.self.inside.device) (g.D.Device.changes_of c.self.inside.device) (g.D.Device.changes_of c.sync-result.new.device)
      c.self.inside.state c.sync-result.new.self c.self.inside.words c.self.inside.words (sync_facts c.sync-result.result (facts_of c.self.inside.state)) (AfterSync c.sync-result.result (facts_of c.self.inside.state)) c.sync-result.ensures.sectors c.self.invariant.0
      (sync_result c.sync-result.result c.self.inside.state c.sync-result.new.self c.sync-result.ensures.ok c.sync-result.ensures.err)
      (sync_step g.D.Device.changes_of g.D.Device.moment_of (g.D.Device.sector_count c.self.inside.device) (facts_of c.self.inside.state) c.sync-result.result c.self.inside.device c.sync-result.new.device (g.met.D.Device.values c.sync-result.new.device) c.sync-result.ensures.changes)
      (sync_kept c.sync-result.result (facts_of c.self.inside.state) c.self.invariant.0.kept)
      (λ b is. c.self.invariant.0.worded b (sync_worded c.sync-result.result (facts_of c.self.inside.state) b is)) c.self.invariant.0.fit,
  told_at (facts_of c.sync-result.new.self) (sync_facts c.sync-result.result (facts_of c.self.inside.state)) c.after_sync.new.self (sync_result c.sync-result.result c.self.inside.state c.sync-result.new.self c.sync-result.ensures.ok c.sync-result.ensures.err) (sync_told c.sync-result.result c.is_ok.result (facts_of c.self.inside.state) (facts_of c.sync-result.new.self) c.self.inside.told c.after_sync.new.self c.is_ok.ensures.value (sync_result c.sync-result.result c.self.inside.state c.sync-result.new.self c.sync-result.ensures.ok c.sync-result.ensures.err) c.after_sync.ensures.dry c.after_sync.ensures.left c.after_sync.ensures.lowest c.after_sync.ensures.front c.after_sync.ensures.failed c.self.invariant.1),
)
