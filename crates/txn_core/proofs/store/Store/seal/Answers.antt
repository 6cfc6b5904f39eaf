use Rattle.std.proofs.Common.{refl}
use Rattle.txn_laws.specs.txn_model.Calls.{sealed_facts}
use Rattle.txn_state.specs.States.{facts_of}
use Rattle.txn_laws.specs.Windows.{AfterWrite}
use Rattle.txn_core.proofs.Calling.{seal_step}
use Rattle.txn_core.proofs.Kepts.{sealed_kept}
use Rattle.txn_core.proofs.Tellings.{sealed_told}
use Rattle.txn_core.proofs.AfterCalls.{told_at}
use Rattle.txn_core.proofs.Keeping.{step_of, stands_after}
use Rattle.txn_core.proofs.store.Store.seal.Goals as goal

pub returns-clause-step : goal.returns-clause-step
returns-clause-step g c =
    step_of g.D.Device.sector_count g.D.Device.moment_of g.D.Device.changes_of (λ s. AfterWrite) (record { device = c.self.inside.device; state = c.self.inside.state; words = c.self.inside.words }) c.args.self.now
    (record { device = c.self.inside.device; state = c.seal.new.self; words = c.self.inside.words }) (sealed_facts (facts_of c.self.inside.state)) c.self.view_is c.seal.ensures
    (seal_step (g.D.Device.sector_count c.self.inside.device) (g.D.Device.moment_of c.self.inside.device) (g.D.Device.changes_of c.self.inside.device) (facts_of c.self.inside.state))

pub invariant_of-self : goal.invariant_of-self
invariant_of-self g c = (
  stands_after (g.D.Device.sector_count c.self.inside.device) (g.D.Device.sector_count c.self.inside.device) (g.D.Device.moment_of c.self.inside.device) (g.D.Device.changes_of c.self.inside.device) (g.D.Device.changes_of c.self.inside.device)
      c.self.inside.state c.seal.new.self c.self.inside.words c.self.inside.words (sealed_facts (facts_of c.self.inside.state)) AfterWrite refl c.self.invariant.0 c.seal.ensures
      (seal_step (g.D.Device.sector_count c.self.inside.device) (g.D.Device.moment_of c.self.inside.device) (g.D.Device.changes_of c.self.inside.device) (facts_of c.self.inside.state))
      (sealed_kept (facts_of c.self.inside.state) c.self.invariant.0.kept) c.self.invariant.0.worded c.self.invariant.0.fit,
  told_at (facts_of c.seal.new.self) (sealed_facts (facts_of c.self.inside.state)) c.self.inside.told c.seal.ensures (sealed_told (facts_of c.self.inside.state) c.self.inside.told c.self.invariant.0.kept c.self.invariant.1),
)
