use Rattle.std.proofs.Common.{refl, ap, ◌∙◌}
use Rattle.txn_laws.specs.txn_model.Calls.{begun_facts}
use Rattle.txn_state.specs.States.{facts_of}
use Rattle.txn_laws.specs.Windows.{AfterBegin}
use Rattle.txn_core.specs.Seen.{Seen}
use Rattle.txn_core.proofs.Calling.{begin_step}
use Rattle.txn_core.proofs.Kepts.{begun_kept}
use Rattle.txn_core.proofs.Tellings.{begun_told}
use Rattle.txn_core.proofs.AfterCalls.{told_at}
use Rattle.txn_core.proofs.Keeping.{step_of, stands_after}
use Rattle.txn_core.proofs.store.Store.begin.Goals as goal

pub returns-clause-step : goal.returns-clause-step
returns-clause-step g c =
    step_of g.D.Device.sector_count g.D.Device.moment_of g.D.Device.changes_of (λ s. AfterBegin) (record { device = c.self.inside.device; state = c.self.inside.state; words = c.self.inside.words }) c.args.self.now
    (record { device = c.self.inside.device; state = c.begin.new.self; words = c.self.inside.words }) (begun_facts (facts_of c.self.inside.state)) c.self.view_is c.begin.ensures
    (begin_step (g.D.Device.sector_count c.self.inside.device) (g.D.Device.moment_of c.self.inside.device) (g.D.Device.changes_of c.self.inside.device) (facts_of c.self.inside.state) (ap (λ (s : Seen _). s.state.is_open) c.self.view_is ∙ c.requires.closed))

pub invariant_of-self : goal.invariant_of-self
invariant_of-self g c = (
  stands_after (g.D.Device.sector_count c.self.inside.device) (g.D.Device.sector_count c.self.inside.device) (g.D.Device.moment_of c.self.inside.device) (g.D.Device.changes_of c.self.inside.device) (g.D.Device.changes_of c.self.inside.device)
      c.self.inside.state c.begin.new.self c.self.inside.words c.self.inside.words (begun_facts (facts_of c.self.inside.state)) AfterBegin refl c.self.invariant.0 c.begin.ensures
      (begin_step (g.D.Device.sector_count c.self.inside.device) (g.D.Device.moment_of c.self.inside.device) (g.D.Device.changes_of c.self.inside.device) (facts_of c.self.inside.state) (ap (λ (s : Seen _). s.state.is_open) c.self.view_is ∙ c.requires.closed))
      (begun_kept (facts_of c.self.inside.state) c.self.invariant.0.kept) c.self.invariant.0.worded c.self.invariant.0.fit,
  told_at (facts_of c.begin.new.self) (begun_facts (facts_of c.self.inside.state)) c.self.inside.told c.begin.ensures (begun_told (facts_of c.self.inside.state) c.self.inside.told c.self.invariant.1),
)
