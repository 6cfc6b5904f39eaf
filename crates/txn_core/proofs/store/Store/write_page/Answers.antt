use Rattle.std.proofs.Common.{◌<◌, sym, subst}
use Rattle.txn_state.specs.States.{facts_of}
use Rattle.txn_laws.specs.Windows.{AfterWrite}
use Rattle.txn_core.specs.Calls.{page_facts}
use Rattle.txn_core.specs.Seen.{Seen}
use Rattle.txn_core.proofs.Calling.{page_step}
use Rattle.txn_core.proofs.AfterCalls.{told_at, page_kept, page_told}
use Rattle.txn_core.proofs.Keeping.{step_of, stands_after, page_result, page_worded}
use Rattle.txn_core.proofs.store.Store.write_page.Goals as goal

pub returns-clause-step : goal.returns-clause-step
returns-clause-step g c =
    step_of g.D.Device.sector_count g.D.Device.moment_of g.D.Device.changes_of (λ s. AfterWrite) (record { device = c.self.inside.device; state = c.self.inside.state; words = c.self.inside.words }) c.args.self.now
    (record { device = c.write_page.new.device; state = c.write_page.new.self; words = c.self.inside.words }) (page_facts c.write_page.result c.write_page.new.self.log.check (facts_of c.self.inside.state)) c.self.view_is
    (page_result c.write_page.result c.self.inside.state c.write_page.new.self c.write_page.ensures.ok c.write_page.ensures.err)
    (page_step g.D.Device.gives g.D.Device.changes_of g.D.Device.moment_of (g.D.Device.sector_count c.self.inside.device) (facts_of c.self.inside.state) c.write_page.result c.write_page.new.self.log.check c.self.inside.device c.write_page.new.device
    (g.met.D.Device.seen c.self.inside.device) (g.met.D.Device.values c.write_page.new.device) (subst (λ (s : Seen _). s.state.log.done < s.state.log.sealed) (sym c.self.view_is) c.requires.some) c.write_page.ensures.sent)

pub invariant_of-self : goal.invariant_of-self
invariant_of-self g c = (
  stands_after (g.D.Device.sector_count c.self.inside.device) (g.D.Device.sector_count c.write_page.new.device) (g.D.Device.moment_of c.self.inside.device) (g.D.Device.changes_of c.self.inside.device) (g.D.Device.changes_of c.write_page.new.device)
      c.self.inside.state c.write_page.new.self c.self.inside.words c.self.inside.words (page_facts c.write_page.result c.write_page.new.self.log.check (facts_of c.self.inside.state)) AfterWrite c.write_page.ensures.sectors c.self.invariant.0
      (page_result c.write_page.result c.self.inside.state c.write_page.new.self c.write_page.ensures.ok c.write_page.ensures.err)
      (page_step g.D.Device.gives g.D.Device.changes_of g.D.Device.moment_of (g.D.Device.sector_count c.self.inside.device) (facts_of c.self.inside.state) c.write_page.result c.write_page.new.self.log.check c.self.inside.device c.write_page.new.device
      (g.met.D.Device.seen c.self.inside.device) (g.met.D.Device.values c.write_page.new.device) (subst (λ (s : Seen _). s.state.log.done < s.state.log.sealed) (sym c.self.view_is) c.requires.some) c.write_page.ensures.sent)
      (page_kept c.write_page.result c.write_page.new.self.log.check (facts_of c.self.inside.state) c.self.invariant.0.kept (subst (λ (s : Seen _). s.state.log.done < s.state.log.sealed) (sym c.self.view_is) c.requires.some))
      (λ b is. c.self.invariant.0.worded b (page_worded c.write_page.result c.write_page.new.self.log.check (facts_of c.self.inside.state) b is)) c.self.invariant.0.fit,
  told_at (facts_of c.write_page.new.self) (page_facts c.write_page.result c.write_page.new.self.log.check (facts_of c.self.inside.state)) c.self.inside.told (page_result c.write_page.result c.self.inside.state c.write_page.new.self c.write_page.ensures.ok c.write_page.ensures.err) (page_told c.write_page.result c.write_page.new.self.log.check (facts_of c.self.inside.state) c.self.inside.told c.self.invariant.1),
)
