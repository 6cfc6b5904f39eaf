use Rattle.std.proofs.Common.{[], ◌∷◌, refl, sym, ap, subst, ◌∙◌}
use Rattle.txn_laws.specs.log_model.declared.entry.Act.TheVariants.{Commit}
use Rattle.txn_laws.specs.txn_model.Appending.{MayAppend}
use Rattle.txn_laws.specs.txn_model.Pieces.{next_entry}
use Rattle.txn_laws.specs.txn_model.Calls.{committed_facts}
use Rattle.txn_state.specs.States.{facts_of}
use Rattle.txn_laws.specs.Windows.{AfterCommit}
use Rattle.txn_core.specs.Seen.{Seen}
use Rattle.txn_core.proofs.Calling.{commit_step}
use Rattle.txn_core.proofs.KeptLogs.{log_appends}
use Rattle.txn_core.proofs.Kepts.{committed_kept}
use Rattle.txn_core.proofs.Tellings.{committed_told}
use Rattle.txn_core.proofs.AfterCalls.{told_at}
use Rattle.txn_core.proofs.Keeping.{step_of, stands_after}
use Rattle.txn_core.proofs.store.Store.commit.Goals as goal

pub returns-clause-step : goal.returns-clause-step
returns-clause-step g c =
    step_of g.D.Device.sector_count g.D.Device.moment_of g.D.Device.changes_of (λ s. AfterCommit) (record { device = c.self.inside.device; state = c.self.inside.state; words = c.self.inside.words }) c.args.self.now
    (record { device = c.self.inside.device; state = c.commit.new.self; words = c.self.inside.words }) (committed_facts (facts_of c.self.inside.state)) c.self.view_is c.commit.ensures.facts
    (commit_step (g.D.Device.sector_count c.self.inside.device) (g.D.Device.moment_of c.self.inside.device) (g.D.Device.changes_of c.self.inside.device) (facts_of c.self.inside.state) (ap (λ (s : Seen _). s.state.is_open) c.self.view_is ∙ c.requires.opened) (subst (λ (s : Seen _). MayAppend s.state.log (next_entry s.state.log s.state.tx s.state.last Commit)) (sym c.self.view_is) c.requires.room))

pub invariant_of-self : goal.invariant_of-self
invariant_of-self g c = (
  stands_after (g.D.Device.sector_count c.self.inside.device) (g.D.Device.sector_count c.self.inside.device) (g.D.Device.moment_of c.self.inside.device) (g.D.Device.changes_of c.self.inside.device) (g.D.Device.changes_of c.self.inside.device)
      c.self.inside.state c.commit.new.self c.self.inside.words c.self.inside.words (committed_facts (facts_of c.self.inside.state)) AfterCommit refl c.self.invariant.0 c.commit.ensures.facts
      (commit_step (g.D.Device.sector_count c.self.inside.device) (g.D.Device.moment_of c.self.inside.device) (g.D.Device.changes_of c.self.inside.device) (facts_of c.self.inside.state) (ap (λ (s : Seen _). s.state.is_open) c.self.view_is ∙ c.requires.opened) (subst (λ (s : Seen _). MayAppend s.state.log (next_entry s.state.log s.state.tx s.state.last Commit)) (sym c.self.view_is) c.requires.room))
      (committed_kept (facts_of c.self.inside.state) c.self.invariant.0.kept c.known.ensures (subst (λ (s : Seen _). MayAppend s.state.log (next_entry s.state.log s.state.tx s.state.last Commit)) (sym c.self.view_is) c.requires.room)) c.self.invariant.0.worded c.self.invariant.0.fit,
  told_at (facts_of c.commit.new.self) (committed_facts (facts_of c.self.inside.state)) c.self.inside.told c.commit.ensures.facts (committed_told (facts_of c.self.inside.state) c.self.inside.told c.self.invariant.0.kept (log_appends c.self.inside.state.log c.self.inside.state.noted c.self.inside.state.tx c.self.inside.state.last (Commit ∷ []) c.self.invariant.0.kept.order ((subst (λ (s : Seen _). MayAppend s.state.log (next_entry s.state.log s.state.tx s.state.last Commit)) (sym c.self.view_is) c.requires.room), tt)) c.self.invariant.1),
)
