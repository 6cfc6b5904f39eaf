use Rattle.std.proofs.Common.{◌≡◌, ◌^◌, ◌<◌, refl, ap, subst, ◌∙◌}
use Rattle.txn_laws.specs.log_page.Places.{sequence_bits}
use Rattle.device_blocks.specs.log_area.Areas.{lap_at, next_number, next_lsn}
use Rattle.txn_laws.specs.txn_model.Values.{StoreFacts}
use Rattle.txn_laws.specs.txn_model.Calls.{noted_facts}
use Rattle.txn_state.specs.States.{facts_of}
use Rattle.txn_laws.specs.Windows.{AfterWrite}
use Rattle.txn_core.specs.Seen.{Seen}
use Rattle.txn_core.specs.Tells.{TellsLeft}
use Rattle.txn_core.proofs.Keeping.{step_of, stands_after}
use Rattle.txn_core.proofs.Kepts.{noted_kept}
use Rattle.txn_core.proofs.Tellings.{noted_told}
use Rattle.txn_core.proofs.AfterCalls.{told_at}
use Rattle.txn_core.proofs.Restarting.{note_step, none_sent}
use Rattle.txn_core.proofs.store.Store.begin_checkpoint.Goals as goal

pub returns-clause-step : goal.returns-clause-step
returns-clause-step g c =
    step_of g.D.Device.sector_count g.D.Device.moment_of g.D.Device.changes_of (λ s. AfterWrite) (record { device = c.self.inside.device; state = c.self.inside.state; words = c.self.inside.words }) c.args.self.now
    (record { device = c.self.inside.device; state = c.begin_checkpoint.new.self; words = c.self.inside.words }) (noted_facts (facts_of c.self.inside.state)) c.self.view_is c.begin_checkpoint.ensures
    (note_step (g.D.Device.sector_count c.self.inside.device) (g.D.Device.moment_of c.self.inside.device) (g.D.Device.changes_of c.self.inside.device) (facts_of c.self.inside.state) (ap (λ (s : Seen _). s.state.is_open) c.self.view_is ∙ c.requires.closed) (ap (λ (s : Seen _). s.state.noted) c.self.view_is ∙ c.requires.none))

pub returns-clause-unsent : goal.returns-clause-unsent
returns-clause-unsent g c =
    let none = ap (λ (s : Seen _). s.state.noted) c.self.view_is ∙ c.requires.none in
    ap (λ (f : StoreFacts). f.log.sent) c.begin_checkpoint.ensures ∙ none_sent (facts_of c.self.inside.state) c.self.inside.told none c.self.invariant.1

pub invariant_of-self : goal.invariant_of-self
invariant_of-self g c =
    let none = ap (λ (s : Seen _). s.state.noted) c.self.view_is ∙ c.requires.none in (
      stands_after (g.D.Device.sector_count c.self.inside.device) (g.D.Device.sector_count c.self.inside.device) (g.D.Device.moment_of c.self.inside.device) (g.D.Device.changes_of c.self.inside.device) (g.D.Device.changes_of c.self.inside.device)
          c.self.inside.state c.begin_checkpoint.new.self c.self.inside.words c.self.inside.words (noted_facts (facts_of c.self.inside.state)) AfterWrite refl c.self.invariant.0 c.begin_checkpoint.ensures
          (note_step (g.D.Device.sector_count c.self.inside.device) (g.D.Device.moment_of c.self.inside.device) (g.D.Device.changes_of c.self.inside.device) (facts_of c.self.inside.state) (ap (λ (s : Seen _). s.state.is_open) c.self.view_is ∙ c.requires.closed) none)
          (noted_kept (facts_of c.self.inside.state) none c.self.invariant.0.kept) c.self.invariant.0.worded c.self.invariant.0.fit,
      told_at (facts_of c.begin_checkpoint.new.self) (noted_facts (facts_of c.self.inside.state)) c.after_begin.new.self c.begin_checkpoint.ensures
          (noted_told (facts_of c.self.inside.state) c.self.inside.told c.after_begin.new.self c.self.invariant.0.kept none c.after_begin.ensures.rest (subst (λ (f : StoreFacts). TellsLeft f.mark c.after_begin.new.self.left) c.begin_checkpoint.ensures c.after_begin.ensures.left)
          (subst (λ (f : StoreFacts). lap_at f.log (next_number f.log 0x58) < 2 ^ sequence_bits f.log.pages → c.after_begin.new.self.front ≡ next_lsn f.log 0x58) c.begin_checkpoint.ensures c.after_begin.ensures.front) c.self.invariant.1),
    )
