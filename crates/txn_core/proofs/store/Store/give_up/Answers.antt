use Rattle.std.proofs.Common.{refl, ap, subst, ◌∙◌}
use Rattle.txn_laws.specs.txn_model.Calls.{given_up_facts}
use Rattle.txn_state.specs.States.{facts_of}
use Rattle.txn_laws.specs.Windows.{AfterGiveUp}
use Rattle.txn_core.specs.Seen.{Seen}
use Rattle.txn_core.proofs.Calling.{give_up_step}
use Rattle.txn_laws.specs.txn_model.Values.{StoreFacts}
use Rattle.txn_laws.specs.txn_model.Calls.{is_ready}
use Rattle.txn_core.specs.Tells.{IsLowest}
use Rattle.txn_core.proofs.Kepts.{given_up_kept}
use Rattle.txn_core.proofs.Tellings.{given_up_told}
use Rattle.txn_core.proofs.AfterCalls.{told_at}
use Rattle.txn_core.proofs.Keeping.{step_of, stands_after, given_up_worded}
use Rattle.txn_core.proofs.store.Store.give_up.Goals as goal

pub returns-clause-step : goal.returns-clause-step
returns-clause-step g c =
    step_of g.D.Device.sector_count g.D.Device.moment_of g.D.Device.changes_of (λ s. AfterGiveUp) (record { device = c.self.inside.device; state = c.self.inside.state; words = c.self.inside.words }) c.args.self.now
    (record { device = c.self.inside.device; state = c.give_up.new.self; words = c.self.inside.words }) (given_up_facts (facts_of c.self.inside.state)) c.self.view_is c.give_up.ensures
    (give_up_step (g.D.Device.sector_count c.self.inside.device) (g.D.Device.moment_of c.self.inside.device) (g.D.Device.changes_of c.self.inside.device) (facts_of c.self.inside.state) (ap (λ (s : Seen _). s.state.is_open) c.self.view_is ∙ c.requires.opened))

pub invariant_of-self : goal.invariant_of-self
invariant_of-self g c = (
  stands_after (g.D.Device.sector_count c.self.inside.device) (g.D.Device.sector_count c.self.inside.device) (g.D.Device.moment_of c.self.inside.device) (g.D.Device.changes_of c.self.inside.device) (g.D.Device.changes_of c.self.inside.device)
      c.self.inside.state c.give_up.new.self c.self.inside.words c.self.inside.words (given_up_facts (facts_of c.self.inside.state)) AfterGiveUp refl c.self.invariant.0 c.give_up.ensures
      (give_up_step (g.D.Device.sector_count c.self.inside.device) (g.D.Device.moment_of c.self.inside.device) (g.D.Device.changes_of c.self.inside.device) (facts_of c.self.inside.state) (ap (λ (s : Seen _). s.state.is_open) c.self.view_is ∙ c.requires.opened))
      (given_up_kept (facts_of c.self.inside.state) c.self.invariant.0.kept) (given_up_worded (facts_of c.self.inside.state) c.self.inside.words c.known.ensures c.self.invariant.0.worded) c.self.invariant.0.fit,
  told_at (facts_of c.give_up.new.self) (given_up_facts (facts_of c.self.inside.state)) c.seek.new.self c.give_up.ensures (given_up_told (facts_of c.self.inside.state) c.self.inside.told c.seek.new.self c.seek.ensures.rest (subst (λ (f : StoreFacts). IsLowest (is_ready f) c.seek.new.self.ready) c.give_up.ensures c.seek.ensures.lowest) c.self.invariant.1),
)
