use Rattle.std.proofs.Common.{sym, subst}
use Rattle.txn_laws.specs.txn_model.Values.{StoreFacts}
use Rattle.txn_state.specs.States.{facts_of}
use Rattle.txn_core.specs.Calls.{sync_facts, AfterSync}
use Rattle.txn_core.specs.Tells.{TellsFront}
use Rattle.txn_core.proofs.Calling.{sync_step}
use Rattle.txn_core.proofs.AfterCalls.{sync_kept, sync_front}
use Rattle.txn_core.proofs.Keeping.{step_of, stands_after, sync_result, sync_worded}
use Rattle.txn_core.proofs.closing.Closing.sync_device.Goals as goal

pub returns-clause-step : goal.returns-clause-step
returns-clause-step g c =
    step_of g.D.Device.sector_count g.D.Device.moment_of g.D.Device.changes_of (λ s. AfterSync c.sync.result (facts_of s.state)) (record { device = c.self.inside.device; state = c.self.inside.state; words = c.self.inside.words }) c.args.self.now
    (record { device = c.sync.new.device; state = c.sync.new.self; words = c.self.inside.words }) (sync_facts c.sync.result (facts_of c.self.inside.state)) c.self.view_is
    (sync_result c.sync.result c.self.inside.state c.sync.new.self c.sync.ensures.ok c.sync.ensures.err)
    (sync_step g.D.Device.changes_of g.D.Device.moment_of (g.D.Device.sector_count c.self.inside.device) (facts_of c.self.inside.state) c.sync.result c.self.inside.device c.sync.new.device (g.met.D.Device.values c.sync.new.device) c.sync.ensures.changes)

pub invariant_of-self : goal.invariant_of-self
invariant_of-self g c = (
  stands_after (g.D.Device.sector_count c.self.inside.device) (g.D.Device.sector_count c.sync.new.device) (g.D.Device.moment_of c.self.inside.device) (g.D.Device.changes_of c.self.inside.device) (g.D.Device.changes_of c.sync.new.device)
      c.self.inside.state c.sync.new.self c.self.inside.words c.self.inside.words (sync_facts c.sync.result (facts_of c.self.inside.state)) (AfterSync c.sync.result (facts_of c.self.inside.state)) c.sync.ensures.sectors c.self.invariant.0
      (sync_result c.sync.result c.self.inside.state c.sync.new.self c.sync.ensures.ok c.sync.ensures.err)
      (sync_step g.D.Device.changes_of g.D.Device.moment_of (g.D.Device.sector_count c.self.inside.device) (facts_of c.self.inside.state) c.sync.result c.self.inside.device c.sync.new.device (g.met.D.Device.values c.sync.new.device) c.sync.ensures.changes)
      (sync_kept c.sync.result (facts_of c.self.inside.state) c.self.invariant.0.kept)
      (λ b is. c.self.invariant.0.worded b (sync_worded c.sync.result (facts_of c.self.inside.state) b is)) c.self.invariant.0.fit,
  subst (λ (h : StoreFacts). TellsFront h.log h.noted c.self.inside.front) (sym (sync_result c.sync.result c.self.inside.state c.sync.new.self c.sync.ensures.ok c.sync.ensures.err)) (sync_front c.sync.result (facts_of c.self.inside.state) c.self.inside.front c.self.invariant.1),
)
