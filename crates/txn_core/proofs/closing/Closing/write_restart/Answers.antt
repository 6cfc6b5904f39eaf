use Rattle.std.proofs.Common.{◌≡◌, true, refl, sym, ap, subst, ◌∙◌}
use Rattle.std.specs.Prelude.{IfSome, OnErr}
use Rattle.txn_state.specs.States.{facts_of}
use Rattle.txn_laws.specs.Windows.{AfterWrite}
use Rattle.txn_core.specs.Seen.{Seen}
use Rattle.txn_core.specs.Turns.{MayRestart, IsLast, restart_page, restart_facts, SendsRestartPage}
use Rattle.txn_core.proofs.Keeping.{step_of}
use Rattle.txn_core.proofs.closing.Closing.write_restart.Goals as goal

pub send_restart-requires : goal.send_restart-requires
send_restart-requires g c = record {
  place = c.self.invariant.0.place;
  kept = c.self.invariant.0.kept;
  front = c.self.invariant.1;
  may = subst (λ (s : Seen _). MayRestart (facts_of s.state)) (sym c.self.view_is) c.requires.may;
  last = λ is. subst (λ (s : Seen _). IsLast (facts_of s.state)) (sym c.self.view_is) c.requires.last;
}

pub returns-clause-facts : goal.returns-clause-facts
returns-clause-facts g c = c.send_restart.ensures.facts ∙ ap (λ (s : Seen _). restart_facts c.send_restart.result c.send_restart.new.state.log.sent (facts_of s.state)) c.self.view_is

pub returns-clause-page : goal.returns-clause-page
returns-clause-page g c = subst (λ (s : Seen _). OnErr c.send_restart.result (IfSome c.send_restart.new.state.log.sent (λ x. x.page ≡ restart_page true (facts_of s.state)))) c.self.view_is c.send_restart.ensures.page

pub returns-clause-sent : goal.returns-clause-sent
returns-clause-sent g c =
    subst (λ (s : Seen _). SendsRestartPage g.D.Device.gives g.D.Device.changes_of g.D.Device.moment_of true (facts_of s.state) (facts_of c.send_restart.new.state) c.send_restart.result s.device c.send_restart.new.device) c.self.view_is c.send_restart.ensures.sent

pub returns-clause-step : goal.returns-clause-step
returns-clause-step g c =
    step_of g.D.Device.sector_count g.D.Device.moment_of g.D.Device.changes_of (λ s. AfterWrite) (record { device = c.self.inside.device; state = c.self.inside.state; words = c.self.inside.words }) c.args.self.now
    (record { device = c.send_restart.new.device; state = c.send_restart.new.state; words = c.self.inside.words }) (facts_of c.send_restart.new.state) c.self.view_is refl c.send_restart.ensures.step

pub invariant_of-self : goal.invariant_of-self
invariant_of-self g c = (
  c.send_restart.ensures.stands c.self.inside.words c.self.invariant.0,
  c.send_restart.ensures.names,
)
